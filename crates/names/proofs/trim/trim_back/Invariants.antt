-- What is left is trimmed as the whole is.
use Rattle.std.proofs.Common.{◌≡◌, ◌≤◌, length, take}
use Rattle.names.specs.Trim as spec
use Rattle.names.proofs.trim.trim_back.Given as goal

abbrev pub invariant-loop-rest : goal.invariant-loop-rest
invariant-loop-rest l = record {
  same : spec.trim_back l.rest ≡ spec.trim_back l.cells;
  place : l.rest ≡ take (length l.rest) l.cells;
  within : length l.rest ≤ length l.cells;
}

abbrev pub decreases-loop-rest : goal.decreases-loop-rest
decreases-loop-rest l = length l.rest
