-- How long a name of a scope can be, by the most that a name at each depth adds.
use Rattle.std.specs.Prelude.{ℕ, zero, suc, ◌+◌, ◌-◌, ◌≤◌, ◌<◌, max, cond, List, [], eqb, length, get_or}
use Rattle.scope.specs.Limits.{max_depth}
use Rattle.scope.specs.Entries.{Entry, ParsingScope}
use Rattle.scope.specs.Viewed.{no_entry}

-- The largest of so many numbers, 0 if there are none.
unfoldable pub most : (ℕ → ℕ) → ℕ → ℕ
most f zero = 0
most f (suc i) = max (most f i) (f i)

-- The sum of so many numbers from the d-th on.
unfoldable pub total : (ℕ → ℕ) → ℕ → ℕ → ℕ
total f zero d = 0
total f (suc n) d = f d + total f n (d + 1)

-- Each name, with " . " behind it, has no more cells than the number at its depth.
abbrev pub Covers : List ℕ → List Entry → Type 0
Covers ws es = (i : ℕ) → i < length es → length (get_or es i no_entry).name + 3 ≤ get_or ws (get_or es i no_entry).depth 0

-- What the name of the entry at place i adds to a key: its cells and those of " . ". Nothing if it stands at another depth than d.
unfoldable pub width : List Entry → ℕ → ℕ → ℕ
width es d i = cond (eqb (get_or es i no_entry).depth d) (length (get_or es i no_entry).name + 3) 0

-- The most that a name at depth d adds.
abbrev pub widest : List Entry → ℕ → ℕ
widest es d = most (width es d) (length es)

-- The length of the longest of the parsed names, 0 if there is none.
abbrev pub longest_parsed : List (List ℕ) → ℕ
longest_parsed ns = most (λ i. length (get_or ns i [])) (length ns)

-- The longest parsed name, or the longest names of all depths one behind the other with " . " between two, whichever has more cells.
abbrev pub cap_of : ParsingScope → ℕ
cap_of s = max (total (widest s.entries) (suc max_depth) 0) (longest_parsed s.parsed + 3) - 3
