-- No name passed is the one looked for.
use mathlib.Core.Path.{◌≡◌}
use mathlib.Core.List.{map}
use lib.ListN.{drop}
use Rattle.names.specs.Same.{member}
use Rattle.scope.specs.Rows.{all_held}
use Rattle.scope.proofs.rows.Rows.has_name.Given as goal

abbrev pub invariant-loop-i : goal.invariant-loop-i
invariant-loop-i l = member l.name (drop l.from (map (λ e. e.name) (all_held l.self.slots.now l.self.names.now))) ≡ member l.name (drop l.i (map (λ e. e.name) (all_held l.self.slots.now l.self.names.now)))
