-- Each span passed lies inside the cells.
use mathlib.Core.Path.{◌≡◌}
use lib.ListN.{drop}
use Rattle.scope.specs.Lent.{any_outside}
use Rattle.lists.proofs.list.List.checked.Given as goal

abbrev pub invariant-loop-row : goal.invariant-loop-row
invariant-loop-row l = any_outside l.cells l.rows ≡ any_outside l.cells (drop l.row-index l.rows)
