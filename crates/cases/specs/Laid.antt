-- Values written one behind the other.
use Rattle.std.specs.Prelude.{◌≡◌, List, [], ◌∷◌, ℕ, zero, suc, ◌+◌, min, length}

-- The values v laid over those of a list from the place k on, as far as there is room; the others stay.
unfoldable pub laid : {A : Type 0} → ℕ → List A → List A → List A
laid k v [] = []
laid zero [] (x ∷ out) = x ∷ out
laid zero (y ∷ v) (x ∷ out) = y ∷ laid zero v out
laid (suc k) v (x ∷ out) = x ∷ laid k v out

-- A writer that found o and left o' laid the values v from the place k on, and answers the place r behind them.
pub record Lays {A : Type 0} (o : List A) (k : ℕ) (v : List A) (r : ℕ) (o' : List A) : Type 0 where
  pub end : r ≡ min (k + length v) (length o)
  pub left : o' ≡ laid k v o
