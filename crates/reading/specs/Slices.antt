-- Lent slices.
use Rattle.std.specs.Prelude.{◌≡◌, List, [], ◌∷◌, ◌++◌, ℕ, zero, suc, ◌+◌, length, drop}

-- 01: a value fills the front of the output; the rest stays.
abbrev pub front : {A : Type 0} → List A → List A → List A
front v out = v ++ drop (length v) out

-- 01: scratch always comes back all zero.
abbrev pub zeros : ℕ → List ℕ
zeros zero = []
zeros (suc n) = 0 ∷ zeros n

-- A writer that found o and left o' wrote the k cells v to its front.
pub record Wrote (o v : List ℕ) (k : ℕ) (o' : List ℕ) : Type 0 where
  pub size : k ≡ length v
  pub left : o' ≡ front v o

-- Where k cells stood at the front of o, v stands behind them now, up to r.
pub record Further (o : List ℕ) (k : ℕ) (v : List ℕ) (r : ℕ) (o' : List ℕ) : Type 0 where
  pub so : (o₀ w : List ℕ) → Wrote o₀ w k o → Wrote o₀ (w ++ v) r o'
  pub size : r ≡ k + length v
