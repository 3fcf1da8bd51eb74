-- Each row passed fits, and what is left is the definition behind it.
use mathlib.Core.Path.{◌≡◌}
use Prim.Native.Nat.{◌≤◌}
use lib.ListN.{length}
use Rattle.runs.specs.Request.{rows_fit}
use Rattle.repair.proofs.request.rows_fit.Given as goal

abbrev pub invariant-loop-row : goal.invariant-loop-row
invariant-loop-row l = (l.at ≤ l.m) × (l.p ≤ l.n) × (rows_fit l.n l.m l.at l.p l.rest ≡ rows_fit l.n l.m 0 0 l.rows)

abbrev pub decreases-loop-row : goal.decreases-loop-row
decreases-loop-row l = length l.rest
