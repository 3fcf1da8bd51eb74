-- Searches: what is looked for is here, or in the rest.
use mathlib.Core.Path.{◌≡◌, refl, sym, ◌∙◌}
use mathlib.Core.Bool.{Bool, true, false, ◌&&◌, ◌||◌}

-- One step of a search.
pub record Step (whole here rest : Bool) : Type 0 where
  pub parts : whole ≡ here || rest

module _ {whole here rest b : Bool} (s : Step whole here rest) (h : b ≡ here) where
  pub found : b ≡ true → whole ≡ true
  found t = s.parts ∙ rw (sym h ∙ t)

  pub missed : b ≡ false → whole ≡ rest
  missed t = s.parts ∙ rw (sym h ∙ t)

pub or_none : (a : Bool) → a || false ≡ a
or_none true = refl
or_none false = refl

pub and_none : (a : Bool) → a && false ≡ false
and_none true = refl
and_none false = refl
