-- No name passed is broken or there again.
use mathlib.Core.Path.{◌≡◌}
use mathlib.Core.List.{map}
use lib.ListN.{drop}
use Rattle.scope.specs.Broken.{is_broken_set}
use Rattle.scope.specs.Rows.{all_held}
use Rattle.scope.proofs.broken.is_broken_set.Given as goal

abbrev pub invariant-loop-i : goal.invariant-loop-i
invariant-loop-i l = is_broken_set (map (λ e. e.name) (all_held l.parsed.slots.now l.parsed.names.now)) ≡ is_broken_set (drop l.i (map (λ e. e.name) (all_held l.parsed.slots.now l.parsed.names.now)))
