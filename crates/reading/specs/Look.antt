-- A reading of a text as a tree of looks: at each step it says which cell it asks for, and goes on by what stands there.
use Rattle.std.specs.Prelude.{List, [], ◌∷◌, ℕ, zero, suc, ◌+◌, max, Option, None, Some}

-- The cell at an index, or none past the end: what the Rust's `char_at` answers.
unfoldable pub cell_at : List ℕ → ℕ → Option ℕ
cell_at [] i = None
cell_at (x ∷ t) zero = Some x
cell_at (x ∷ t) (suc i) = cell_at t i

infixl 10 ◌>>=◌
pub data Look (A : Type 0) : Type 0 where
  done : A → Look A
  ask : ℕ → (Option ℕ → Look A) → Look A

-- One reading, then another that depends on its answer.
abbrev pub ◌>>=◌ : {A B : Type 0} → Look A → (A → Look B) → Look B
done a >>= k = k a
ask i f >>= k = ask i (λ c. f c >>= k)

-- Asks for one cell.
abbrev pub look : ℕ → Look (Option ℕ)
look i = ask i (λ c. done c)

pub record Seen (A : Type 0) : Type 0 where
  pub answer : A
  pub reach : ℕ

-- 01: reach is one more than the largest index asked for, the end included; 0 if none was. Here after asking for i, the reach so far being r.
abbrev pub reaching : ℕ → ℕ → ℕ
reaching r i = max r (i + 1)

-- Reads a text, r being the reach so far.
abbrev pub run_from : {A : Type 0} → List ℕ → ℕ → Look A → Seen A
run_from t r (done a) = record { answer = a; reach = r }
run_from t r (ask i f) = run_from t (reaching r i) (f (cell_at t i))

abbrev pub run : {A : Type 0} → List ℕ → Look A → Seen A
run t m = run_from t 0 m
