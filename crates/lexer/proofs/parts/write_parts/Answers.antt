-- The loop has written the parts before i, and the spelling of the rest goes on from there.
use Rattle.std.proofs.Common.{arith, refl, ◌∙◌}
use Rattle.std.proofs.lemmas.Grind.{common_steps}
use Rattle.lexer.proofs.PartLaws.{spelling_none, spelling-room, spelling_more, spelling_over, spelling-end}
use Rattle.lexer.proofs.parts.write_parts.Goals as goal

pub loop-init : goal.loop-init
loop-init c = record { spelling = spelling_none _ _ _ _ _ (omega arith); same_reference = refl }

pub returns-in_default : goal.returns-in_default
returns-in_default c = let w = spelling_over c.loop.invariant.spelling c.next_part.ensures c.in_default.is in grind (arith, common_steps, w)

pub add_part-requires : goal.add_part-requires
add_part-requires c = spelling-room c.loop.invariant.spelling c.next_part.ensures (omega arith) c.requires.1 c.in-Ok.is c.trim-part.ensures.value c.is_tied-tied.ensures

pub loop-preserved : goal.loop-preserved
loop-preserved c =
    let a = c.add_part.ensures in
    record {
      spelling = spelling_more c.loop.invariant.spelling c.next_part.ensures (omega arith) c.requires.1 c.in-Ok.is c.trim-part.ensures.value c.is_tied-tied.ensures a.further c.ends_tight-tight.ensures;
      same_reference = a.same_reference ∙ c.loop.invariant.same_reference;
    }

pub returns : goal.returns
returns c = let w = spelling-end c.loop.invariant.spelling (omega arith) in grind (arith, common_steps, w)
