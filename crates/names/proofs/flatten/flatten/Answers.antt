-- A text without symbols is left as it is; else the passes, one after the other.
use Rattle.std.proofs.Common.{◌∙◌, arith, refl, sym}
use Rattle.names.proofs.FlattenLaws.{passing_none, passing_more, passing_bare, passing_all}
use Rattle.names.proofs.flatten.flatten.Goals as goal

pub returns-then-not-has_symbol : goal.returns-then-not-has_symbol
returns-then-not-has_symbol c =
    let f = c.trim_front-front.ensures in
    let w = c.trim_back.ensures in
    passing_bare (passing_none f.value f.place f.within w.value w.place w.within) refl c.if-from-eq0.true (sym c.has_symbol.ensures ∙ c.if-not-has_symbol.true)

pub loop-s-init : goal.loop-s-init
loop-s-init c = let f = c.trim_front-front.ensures in let w = c.trim_back.ensures in passing_none f.value f.place f.within w.value w.place w.within

pub loop-s-preserved : goal.loop-s-preserved
loop-s-preserved c = passing_more c.loop-s.invariant (omega arith) c.tighten-end.ensures

pub returns : goal.returns
returns c = passing_all c.loop-s.invariant (omega arith)
