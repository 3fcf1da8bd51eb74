-- What is left is trimmed as the whole is.
use Rattle.std.proofs.Common.{◌≡◌, ◌-◌, ◌≤◌, length, drop}
use Rattle.names.specs.Trim as spec
use Rattle.names.proofs.trim.trim_front.Given as goal

abbrev pub invariant-loop-rest : goal.invariant-loop-rest
invariant-loop-rest l = record {
  same : spec.trim_front l.rest ≡ spec.trim_front l.cells;
  place : l.rest ≡ drop (length l.cells - length l.rest) l.cells;
  within : length l.rest ≤ length l.cells;
}

abbrev pub decreases-loop-rest : goal.decreases-loop-rest
decreases-loop-rest l = length l.rest
