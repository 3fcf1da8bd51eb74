-- Trimming. 01: by Unicode's White_Space, so that U+1680 goes and U+180E and U+FEFF stay.
use Rattle.std.specs.Prelude.{cond, List, [], ◌∷◌, reverse, ℕ}
use Rattle.text.specs.Classes.{is_white}

abbrev pub trim_front : List ℕ → List ℕ
trim_front [] = []
trim_front (x ∷ xs) = cond (is_white x) (trim_front xs) (x ∷ xs)

abbrev pub trim_back : List ℕ → List ℕ
trim_back xs = reverse (trim_front (reverse xs))

unfoldable pub trim : List ℕ → List ℕ
trim xs = trim_back (trim_front xs)
