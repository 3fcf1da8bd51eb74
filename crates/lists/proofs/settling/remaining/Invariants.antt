-- So many names were first seen among those passed; no more than one over the limit are counted.
use mathlib.Core.Path.{◌≡◌}
use mathlib.Core.List.{[]}
use Prim.Native.Nat.{suc, ◌+◌, ◌≤◌}
use lib.ListN.{length, drop}
use Rattle.scope.specs.Limits.{max_entries}
use Rattle.scope.specs.Settled.{settled}
use Rattle.scope.specs.Rows.{earlier}
use Rattle.lists.specs.Firsts.{firsts}
use Rattle.lists.specs.List.{entries_of}
use Rattle.lists.proofs.settling.remaining.Given as goal

abbrev pub invariant-loop-i : goal.invariant-loop-i
invariant-loop-i l = (l.n ≤ suc max_entries) × (l.n + firsts l.cut (earlier l.i (entries_of l.list) []) (drop l.i (entries_of l.list)) ≡ length (settled (entries_of l.list)))
