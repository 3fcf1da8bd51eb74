-- No entry passed, going back, ends the level or has the name.
use mathlib.Core.Path.{◌≡◌}
use mathlib.Core.List.{[]}
use Rattle.scope.specs.Settled.{is_repeated}
use Rattle.scope.specs.Rows.{earlier}
use Rattle.scope.specs.Viewed.{viewed}
use Rattle.lists.proofs.settling.is_seen.Given as goal

abbrev pub invariant-loop-j : goal.invariant-loop-j
invariant-loop-j g l = is_repeated (viewed l.e) (earlier l.i (g.E.Entries.entries l.all) []) ≡ is_repeated (viewed l.e) (earlier l.j (g.E.Entries.entries l.all) [])
