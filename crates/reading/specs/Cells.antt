-- Tests on the cell that a look found.
use Rattle.std.specs.Prelude.{Bool, false, ◌||◌, List, [], ◌∷◌, ℕ, eqb, Option, None, Some}

-- By whether there is a value.
abbrev pub maybe : {A B : Type 0} → Option A → B → (A → B) → B
maybe None x f = x
maybe (Some a) x f = f a

-- A cell is there and is of the class.
abbrev pub holds : (ℕ → Bool) → Option ℕ → Bool
holds p None = false
holds p (Some c) = p c

abbrev pub is : ℕ → Option ℕ → Bool
is x c = holds (eqb x) c

-- The character is one of these.
abbrev pub is_one_of : List ℕ → ℕ → Bool
is_one_of [] c = false
is_one_of (x ∷ xs) c = eqb x c || is_one_of xs c
