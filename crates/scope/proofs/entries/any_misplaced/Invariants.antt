-- The contexts passed lie between the one before them and the count.
use mathlib.Core.Path.{◌≡◌}
use lib.ListN.{drop}
use Rattle.scope.specs.Broken.{any_misplaced}
use Rattle.scope.proofs.entries.any_misplaced.Given as goal

abbrev pub invariant-loop-i : goal.invariant-loop-i
invariant-loop-i g l = any_misplaced l.contexts 1 (g.E.Entries.entries l.all) ≡ any_misplaced l.contexts l.low (drop l.i (g.E.Entries.entries l.all))
