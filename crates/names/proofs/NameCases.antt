-- The two spellings of a name's parts, computed where they differ and where only one trims: U+1680 goes, U+180E stays.
use mathlib.Core.Path.{◌≡◌, refl}
use mathlib.Core.List.{List, [], ◌∷◌, map}
use Prim.Native.Nat.{ℕ}
use Rattle.reading.specs.Codes.{codes}
use Rattle.text.specs.Ranges.{among}
use Rattle.text.specs.Classes.{is_white, is_symbol}
use Rattle.names.specs.Trim.{trim}
use Rattle.names.specs.Name.{new_name}
use Rattle.names.specs.Flatten.{flat, flatten}

pub record Case : Type 0 where
  pub parts : List (List ℕ)
  pub value : List ℕ
  pub flattened : List ℕ

abbrev pub cases : List Case
cases =
    record { parts = map codes ("row" ∷ "width" ∷ "-" ∷ "gutter" ∷ []); value = codes "row width-gutter"; flattened = codes "row width-gutter" }
    ∷ record { parts = map codes ("a" ∷ "." ∷ "." ∷ "b" ∷ []); value = codes "a..b"; flattened = codes "a.. b" }
    ∷ record { parts = map codes ("a" ∷ "+" ∷ []); value = codes "a+"; flattened = codes "a +" }
    ∷ record { parts = map codes ("a" ∷ "/" ∷ "/" ∷ "b" ∷ []); value = codes "a//b"; flattened = codes "a// b" }
    ∷ record { parts = map codes ("a" ∷ "*" ∷ "-" ∷ "b" ∷ []); value = codes "a*-b"; flattened = codes "a *-b" }
    ∷ record { parts = map codes ("a" ∷ "-" ∷ "*" ∷ "b" ∷ []); value = codes "a-*b"; flattened = codes "a-* b" }
    ∷ record { parts = (0x61 ∷ 0x1680 ∷ []) ∷ (0x180E ∷ 0x62 ∷ []) ∷ []; value = 0x61 ∷ 0x20 ∷ 0x180E ∷ 0x62 ∷ []; flattened = 0x61 ∷ 0x20 ∷ 0x180E ∷ 0x62 ∷ [] }
    ∷ record { parts = codes "a" ∷ codes "+" ∷ (0x1680 ∷ []) ∷ []; value = codes "a+"; flattened = codes "a +" }
    ∷ record { parts = codes "a" ∷ codes "+" ∷ codes "+" ∷ (0x1680 ∷ []) ∷ codes "." ∷ (0x1680 ∷ []) ∷ codes "y" ∷ []; value = codes "a++. y"; flattened = codes "a++ . y" }
    ∷ []

pub name_cases : (map (λ c. new_name c.parts) cases ≡ map (λ c. c.value) cases) × (map (λ c. flatten c.parts) cases ≡ map (λ c. c.flattened) cases)
unfolding flat trim is_white is_symbol among
name_cases = (refl, refl)
