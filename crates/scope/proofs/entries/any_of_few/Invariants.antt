-- No entry passed has its name again.
use mathlib.Core.Path.{◌≡◌}
use lib.ListN.{drop}
use Rattle.scope.specs.Broken.{any_repeated}
use Rattle.scope.proofs.entries.any_of_few.Given as goal

abbrev pub invariant-loop-i : goal.invariant-loop-i
invariant-loop-i g l = any_repeated (g.E.Entries.entries l.all) ≡ any_repeated (drop l.i (g.E.Entries.entries l.all))
