-- Each slot passed has a length that its row has.
use mathlib.Core.Path.{◌≡◌}
use Prim.Native.Nat.{◌-◌}
use lib.ListN.{length, drop}
use Rattle.scope.specs.Lent.{any_too_long}
use Rattle.scope.proofs.rows.Rows.checked.Given as goal

abbrev pub invariant-loop-slot : goal.invariant-loop-slot
invariant-loop-slot l = any_too_long (length l.slots) l.slots ≡ any_too_long (length l.slots - l.slot-index) (drop l.slot-index l.slots)
