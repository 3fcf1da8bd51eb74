-- The levels left fall with each call; no entry passed has the text as a key.
use Rattle.std.proofs.Common.{◌≡◌, ◌+◌, ◌-◌, ◌*◌, drop}
use Rattle.names.specs.Same.{member}
use Rattle.scope.specs.Keys.{level, levels}
use Rattle.scope.specs.Sound.{rows_entries}
use Rattle.search.proofs.keys.+below_has_entry_has_has.Given as goal

abbrev pub decreases-entry_has : goal.decreases-entry_has
decreases-entry_has l = 3 * l.levels + 1

abbrev pub decreases-below_has : goal.decreases-below_has
decreases-below_has l = 3 * l.levels

abbrev pub decreases-has : goal.decreases-has
decreases-has l = 3 * l.levels + 2

abbrev pub invariant-has-loop-i : goal.invariant-has-loop-i
invariant-has-loop-i l = member l.text (levels l.levels l.d (drop l.from (rows_entries l.entries))) ≡ member l.text (level (levels (l.levels - 1) (l.d + 1)) l.d (drop l.i (rows_entries l.entries)))
