-- Each span passed lies inside the cells.
use mathlib.Core.Path.{refl, ◌∙◌}
use native.Mathlib.Omega.{arith}
use Rattle.scope.proofs.ListLaws.{outside_end, outside_here, outside_more}
use Rattle.lists.proofs.list.List.checked.Goals as goal

pub returns-then-cells-end : goal.returns-then-cells-end
returns-then-cells-end c = (refl, c.loop-row.invariant ∙ outside_here c.args.cells.now c.args.rows.now c.loop-row.row-index (omega arith) (omega arith))

pub loop-row-preserved : goal.loop-row-preserved
loop-row-preserved c = c.loop-row.invariant ∙ outside_more c.args.cells.now c.args.rows.now c.loop-row.row-index (omega arith) (omega arith)

pub invariant_of-result : goal.invariant_of-result
invariant_of-result c = record { inside = c.loop-row.invariant ∙ outside_end c.args.cells.now c.args.rows.now c.loop-row.row-index (omega arith) }
