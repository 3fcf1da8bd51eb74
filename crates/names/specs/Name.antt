-- The value of a name: `Name::new`'s joining of its parts.
use Rattle.std.specs.Prelude.{Bool, true, false, cond, ◌||◌, List, [], ◌∷◌, ◌++◌, map, ℕ}
use Rattle.text.specs.Classes.{is_symbol}
use Rattle.names.specs.Trim.{trim}

-- The part is one symbol and nothing else.
abbrev pub is_symbol_text : List ℕ → Bool
is_symbol_text [] = false
is_symbol_text (x ∷ []) = is_symbol x
is_symbol_text (x ∷ y ∷ ys) = false

abbrev pub is_empty : List ℕ → Bool
is_empty [] = true
is_empty (x ∷ xs) = false

-- A part behind another, with a space unless one of the two is a symbol or this one is empty; tight says that the one before was a symbol or that there is none.
abbrev pub led : Bool → List ℕ → List ℕ
led tight p = cond (tight || is_symbol_text p || is_empty p) p (0x20 ∷ p)

abbrev pub joined : Bool → List (List ℕ) → List ℕ
joined tight [] = []
joined tight (p ∷ ps) = led tight p ++ joined (is_symbol_text p) ps

abbrev pub new_name : List (List ℕ) → List ℕ
new_name ps = joined true (map trim ps)
