-- One record carries what is written and what is left to read.
use Rattle.std.proofs.Common.{arith, refl}
use Rattle.names.proofs.TightenLaws.{tightening_none, tightening_in, tightening_out, tightening_all}
use Rattle.names.proofs.flatten.tighten.Goals as goal
use Rattle.names.proofs.flatten.tighten.Goals.{then-is_spaced, else-is_spaced}

pub loop-i-init : goal.loop-i-init
loop-i-init c = tightening_none _ _ _ _ (omega arith)

pub loop-i-preserved : goal.loop-i-preserved
loop-i-preserved c = elim c.if-is_spaced.branch [
  | then-is_spaced w ↦ rw (w.cells-is, w.i-is) (tightening_in c.loop-i.invariant refl w.if-is_spaced.ensures)
  | else-is_spaced w ↦ rw (w.cells-is, w.i-is) (tightening_out c.loop-i.invariant refl w.if-is_spaced.ensures (omega arith))
]

pub returns : goal.returns
returns c = tightening_all c.loop-i.invariant refl (omega arith)
