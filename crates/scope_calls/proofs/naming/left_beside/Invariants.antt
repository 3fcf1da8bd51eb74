-- So many stay among those passed.
use mathlib.Core.Path.{◌≡◌}
use Prim.Native.Nat.{◌+◌, ◌≤◌, suc}
use lib.ListN.{length, drop}
use Rattle.scope.specs.Limits.{max_depth}
use Rattle.scope.specs.Sound.{rows_entries}
use Rattle.scope_calls.specs.Naming.{without}
use Rattle.scope_calls.proofs.naming.left_beside.Given as goal

abbrev pub invariant-loop-i : goal.invariant-loop-i
invariant-loop-i l = (l.from + l.n ≤ l.i) × (l.n + length (without l.cut l.name (drop l.i (rows_entries l.entries))) ≡ length (without (suc max_depth) l.name (drop l.from (rows_entries l.entries))))
