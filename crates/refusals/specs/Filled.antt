-- What the program says of slices.
use Rattle.std.specs.Prelude.{Bool, List, ℕ, nat_eq}
use Rattle.std.specs.Cmp.Lexicographic.{pointwise}

-- Two lists have the same rows, cell by cell.
abbrev pub same_rows : List (List ℕ) → List (List ℕ) → Bool
same_rows xs ys = pointwise (pointwise nat_eq) xs ys
