-- The names of the built-in functions, computed: each is one, and what is one letter, one space or another case off is none.
use mathlib.Core.Path.{◌≡◌, refl}
use mathlib.Core.Bool.{Bool, true, not}
use mathlib.Core.List.{List, [], ◌∷◌, ◌++◌, map}
use Prim.Native.Nat.{ℕ, ◌-◌}
use lib.ListN.{length, take, drop}
use Rattle.reading.specs.Codes.{codes}
use Rattle.reading.proofs.Test.{all_of}
use Rattle.names.specs.Same.{same, member}
use Rattle.names.specs.Fixed.{temporal_names}
use Rattle.functions.specs.Functions.{function_names, is_function_name}

-- A capital for the first letter.
abbrev pub capital : List ℕ → List ℕ
capital [] = []
capital (c ∷ cs) = (c - 0x20) ∷ cs

abbrev pub off_of : List ℕ → List (List ℕ)
off_of x = (x ++ codes " ") ∷ (codes " " ++ x) ∷ (x ++ codes "s") ∷ take (length x - 1) x ∷ drop 1 x ∷ capital x ∷ []

abbrev pub is_none : List ℕ → Bool
is_none x = not (is_function_name x)

pub function-cases : (length function_names ≡ 86) × (all_of is_function_name function_names ≡ true) × (all_of is_function_name temporal_names ≡ true)
    × (all_of (λ x. all_of is_none (off_of x)) function_names ≡ true)
    × (all_of is_none ([] ∷ map codes ("met  by" ∷ "metby" ∷ "string_length" ∷ "years and months" ∷ "days and time duration" ∷ "string,now" ∷ "ABS" ∷ [])) ≡ true)
unfolding function_names temporal_names member same
function-cases = (refl, refl, refl, refl, refl)
