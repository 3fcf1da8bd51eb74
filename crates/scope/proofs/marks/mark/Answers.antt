-- What is left of the name carries its mark on.
use mathlib.Core.Path.{sym, ◌∙◌}
use native.Mathlib.Omega.{arith}
use Rattle.scope.proofs.MarkLaws.{mark_end, mark_step}
use Rattle.scope.proofs.marks.mark.Goals as goal

pub loop-c-preserved : goal.loop-c-preserved
loop-c-preserved c = (omega arith, c.loop-c.invariant.1 ∙ mark_step c.args.cells.now c.loop-c.c-index c.loop-c.m (omega arith))

pub returns : goal.returns
returns c = (sym (c.loop-c.invariant.1 ∙ mark_end c.args.cells.now c.loop-c.c-index c.loop-c.m (omega arith)), c.loop-c.invariant.0)
