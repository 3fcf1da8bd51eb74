-- Texts compared cell by cell.
use Rattle.std.specs.Prelude.{Bool, true, false, ◌&&◌, ◌||◌, List, [], ◌∷◌, ℕ, eqb}

unfoldable pub same : List ℕ → List ℕ → Bool
same [] [] = true
same [] (y ∷ ys) = false
same (x ∷ xs) [] = false
same (x ∷ xs) (y ∷ ys) = eqb x y && same xs ys

-- The text is one of these.
unfoldable pub member : List ℕ → List (List ℕ) → Bool
member x [] = false
member x (y ∷ ys) = same y x || member x ys
