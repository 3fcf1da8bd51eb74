-- An entry list as a case gives it: for each entry the depth, the kind and the name.
use Rattle.std.specs.Prelude.{List, [], ◌∷◌, ◌++◌, ℕ, zero, suc, ◌+◌, ◌-◌, ◌%◌, min, length}
use Rattle.cases.specs.Fields.{decimal_at, decimal_end, cells_at, cells_end}

-- The name of the entry at i, and where the next entry begins.
unfoldable pub name_at : List ℕ → ℕ → List ℕ
name_at line i = cells_at line (decimal_end line (decimal_end line i))

unfoldable pub entry_end : List ℕ → ℕ → ℕ
entry_end line i = cells_end line (decimal_end line (decimal_end line i))

-- The names of so many entries from i on, one behind the other, and where the next field begins.
unfoldable pub names_at : ℕ → List ℕ → ℕ → List ℕ
names_at zero line i = []
names_at (suc n) line i = name_at line i ++ names_at n line (entry_end line i)

unfoldable pub entries_end : ℕ → List ℕ → ℕ → ℕ
entries_end zero line i = i
entries_end (suc n) line i = entries_end n line (entry_end line i)

-- The start or the length of a name as a cell; the names of a list have far fewer characters.
abbrev pub cell : ℕ → ℕ
cell n = n % 65_536

-- The row of the entry at i, whose name stands in the cells from k up to e.
unfoldable pub row_at : List ℕ → ℕ → ℕ → ℕ → List ℕ
row_at line i k e = decimal_at line i ∷ decimal_at line (decimal_end line i) ∷ cell k ∷ cell (e - k) ∷ []

-- A name that begins at k ends behind its last cell, or where there is no more room.
abbrev pub name_end : List ℕ → ℕ → ℕ → ℕ → ℕ
name_end line i room k = min (k + length (name_at line i)) room

-- The rows of so many entries from i on; there is so much room for the cells of their names, and k of it is used.
unfoldable pub rows_at : ℕ → List ℕ → ℕ → ℕ → ℕ → List (List ℕ)
rows_at zero line i room k = []
rows_at (suc n) line i room k = row_at line i k (name_end line i room k) ∷ rows_at n line (entry_end line i) room (name_end line i room k)
