-- Flag, letters and what must follow, in the definition's order.
use mathlib.Core.Path.{sym, ◌∙◌}
use native.Mathlib.Omega.{arith}
use Rattle.lexer.specs.FlagsOf.{flags_of}
use Rattle.words.proofs.KeywordLaws.{word_inside, tried_apart, tried_followed, leads_is, and_off}
use Rattle.words.proofs.keywords.try_word.Goals as goal
use Rattle.words.proofs.keywords.try_word.Goals.{then-not-is_taken-via-then-not-is_taken, then-not-is_taken-via-else-not-is_taken+then-not-leads}

pub returns-then-not-is_taken : goal.returns-then-not-is_taken
returns-then-not-is_taken c =
    let z = c.requires in
    tried_apart _ _ _ _ _ _ _ (omega arith) (omega arith) (elim c.then-not-is_taken.branch [
      | then-not-is_taken-via-then-not-is_taken w ↦ let e = sym c.is_taken.ensures ∙ w.if-not-is_taken.true in rw e
      | then-not-is_taken-via-else-not-is_taken+then-not-leads w ↦ and_off _ (leads_is c.args.rest.now c.args.i z.0 z.1 w.leads.ensures ∙ w.if-not-leads.true)
    ])

pub follows-behind-requires : goal.follows-behind-requires
follows-behind-requires c =
    let z = c.requires in
    let b = word_inside c.args.rest.now c.args.i z.0 z.1 (omega arith) (leads_is c.args.rest.now c.args.i z.0 z.1 c.leads.ensures ∙ c.if-not-leads.false) in
    (omega arith, omega (arith, z.0.most), b, omega arith)

pub returns : goal.returns
returns c =
    let z = c.requires in
    rw c.then_some.ensures
    (tried_followed c.args.rest.now c.args.w c.args.letters.now c.args.word (flags_of c.args.flags) c.args.i c.args.reach (omega arith) (omega arith) z.0 z.1 (sym c.is_taken.ensures ∙ c.if-not-is_taken.false)
    (leads_is c.args.rest.now c.args.i z.0 z.1 c.leads.ensures ∙ c.if-not-leads.false) _ _ c.follows-behind.ensures)
