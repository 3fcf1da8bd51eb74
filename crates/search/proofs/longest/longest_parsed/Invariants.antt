-- The length of the longest name passed.
use mathlib.Core.Path.{◌≡◌}
use mathlib.Core.List.{[], map}
use Prim.Native.Nat.{◌≤◌}
use lib.ListN.{length, get_or}
use Rattle.scope.specs.Limits.{max_name}
use Rattle.scope.specs.Sound.{rows_entries}
use Rattle.search.specs.Longest.{most}
use Rattle.search.proofs.longest.longest_parsed.Given as goal

abbrev pub invariant-loop-i : goal.invariant-loop-i
invariant-loop-i l = record {
  value : l.longest ≡ most (λ j. length (get_or (map (λ e. e.name) (rows_entries l.parsed)) j [])) l.i;
  within : l.longest ≤ max_name;
}
