-- No entry passed ends the level or has the name.
use mathlib.Core.Path.{◌≡◌}
use Prim.Native.Nat.{◌+◌}
use lib.ListN.{drop}
use Rattle.scope.specs.Settled.{is_repeated}
use Rattle.scope.specs.Viewed.{viewed}
use Rattle.scope.proofs.entries.is_repeated.Given as goal

abbrev pub invariant-loop-j : goal.invariant-loop-j
invariant-loop-j g l = is_repeated (viewed l.e) (drop (l.i + 1) (g.E.Entries.entries l.all)) ≡ is_repeated (viewed l.e) (drop l.j (g.E.Entries.entries l.all))
