-- No entry passed is broken, so each has its parent.
use mathlib.Core.Path.{◌≡◌}
use mathlib.Core.List.{[]}
use lib.ListN.{drop}
use Rattle.scope.specs.Rows.{earlier}
use Rattle.scope.specs.Listing.{any_broken_to}
use Rattle.scope.specs.Parented.{Parented}
use Rattle.scope.proofs.entries.any_broken.Given as goal

abbrev pub invariant-loop-i : goal.invariant-loop-i
invariant-loop-i g l =
    Parented (earlier l.i (g.E.Entries.entries l.all) [])
    × (any_broken_to l.most [] (g.E.Entries.entries l.all) ≡ any_broken_to l.most (earlier l.i (g.E.Entries.entries l.all) []) (drop l.i (g.E.Entries.entries l.all)))
