-- What a text begins with.
use Rattle.std.specs.Prelude.{Bool, true, false, ◌&&◌, List, [], ◌∷◌, ℕ, eqb}

-- The first text leads the second.
unfoldable pub leads : List ℕ → List ℕ → Bool
leads [] t = true
leads (a ∷ s) [] = false
leads (a ∷ s) (b ∷ t) = eqb a b && leads s t
