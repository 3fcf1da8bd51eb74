-- How much of a text is no white space: flattening keeps it all, so it bounds the names that a prefix can be.
use Rattle.std.specs.Prelude.{cond, List, [], ◌∷◌, ℕ, suc, ◌+◌}
use Rattle.text.specs.Classes.{is_white}

-- How many cells are no white space.
abbrev pub ink : List ℕ → ℕ
ink [] = 0
ink (x ∷ xs) = cond (is_white x) (ink xs) (suc (ink xs))

abbrev pub inks : List (List ℕ) → ℕ
inks [] = 0
inks (p ∷ ps) = ink p + inks ps
