-- Entries of one context, as those of a list are.
use mathlib.Core.Path.{◌≡◌, refl}
use mathlib.Core.List.{List, [], ◌∷◌}
use Prim.Native.Nat.{ℕ}
use Rattle.scope.specs.Entries.{Entry}
use Rattle.scope.specs.Lent.{listed}

abbrev pub AllIn : ℕ → List Entry → Type 0
AllIn c [] = Unit {0}
AllIn c (e ∷ es) = (e.context ≡ c) × AllIn c es

pub listed_in : (k : ℕ) (cs : List ℕ) (rs : List (List ℕ)) → AllIn k (listed k cs rs)
listed_in k cs [] = tt
listed_in k cs (r ∷ rs) = (refl, listed_in k cs rs)
