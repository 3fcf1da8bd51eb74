-- Classes of characters as tables of ranges.
use Rattle.std.specs.Prelude.{◌≡◌, Bool, true, false, ◌&&◌, ◌||◌, List, [], ◌∷◌, ℕ, leb, get_or}

-- A range is its first and its last.
abbrev pub to : ℕ → ℕ → List ℕ
to a b = a ∷ b ∷ []

abbrev pub only : ℕ → List ℕ
only a = to a a

abbrev pub within : List ℕ → ℕ → Bool
within r c = leb (get_or r 0 0) c && leb c (get_or r 1 0)

unfoldable pub among : List (List ℕ) → ℕ → Bool
among [] c = false
among (r ∷ rs) c = within r c || among rs c

-- The ranges rise, from n on: so a search may stop at the first range above a character.
unfoldable pub rises : ℕ → List (List ℕ) → Bool
rises n [] = true
rises n (r ∷ rs) = leb n (get_or r 0 0) && leb (get_or r 0 0) (get_or r 1 0) && rises (get_or r 1 0) rs

-- Whether c lies in a range of the table is r.
pub record Found (table : List (List ℕ)) (c : ℕ) (r : Bool) : Type 0 where
  pub answer : r ≡ among table c
