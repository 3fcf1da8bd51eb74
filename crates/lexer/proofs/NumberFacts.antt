-- A number stays in the text, takes a cell, and its digits with the 0 put in are no more than the cells taken.
use mathlib.Core.Path.{◌≡◌, refl, sym, ap, ◌∙◌}
use mathlib.Core.Bool.{Bool, true, false, ◌||◌, false≢true}
use mathlib.Core.Logic.{◌⊎◌, inl, inr, ⊎_elim}
use mathlib.Core.List.{List, [], ◌∷◌, ◌++◌}
use Prim.Native.Nat.{ℕ, suc, ◌+◌, ◌-◌, ◌≤◌, ◌<◌, max}
use native.Mathlib.Omega.{arith}
use lib.Dec.{eqb}
use lib.ListN.{length, length-append}
use Rattle.reading.specs.Look.{cell_at}
use Rattle.reading.specs.Cells.{holds, is}
use Rattle.reading.specs.Span.{gather}
use Rattle.reading.proofs.Test.{either, by_order}
use Rattle.reading.proofs.Cell.{cell_there}
use Rattle.reading.proofs.Passed.{Passed, passed_more, part_length}
use Rattle.reading.proofs.Ensures.{Ensures, answers, asks, binds, tests, Gathered, gathers}
use Rattle.text.specs.Classes.{is_digit}
use Rattle.lexer.specs.Number.{or_zero, read_sign, read_exponent, read_number}
use Rattle.lexer.proofs.Fine.{Fine, fine}
use Rattle.lexer.proofs.SkipFacts.{far}

-- As many cells as the run is long.
pub gathered_length : {p : ℕ → Bool} {t : List ℕ} {i : ℕ} {r : List ℕ × ℕ} → Gathered p t i r → length r.0 ≡ r.1 - i
gathered_length {t = t} {i} {r} g = ap length g.cells ∙ part_length t i r.1 g.run_ends.within

digits-length : (b a e : List ℕ) → length (b ++ a ++ e) ≡ length b + length a + length e
digits-length b a e = simp length-append

zero_length : (b : List ℕ) → length (or_zero b) ≤ max 1 (length b)
zero_length [] = omega arith
zero_length (x ∷ b) = omega arith

signs : (t : List ℕ) (i : ℕ) → i ≤ length t → Ensures t (far t) (λ s. (i ≤ s.1) × (s.1 ≤ length t)) (read_sign i) (read_sign i)
signs t i h = asks (omega arith) (tests (is 0x2B (cell_at t i))
    (λ g. let l = cell_there _ t i g in answers (omega arith))
    (λ _. tests (is 0x2D (cell_at t i)) (λ g. let l = cell_there _ t i g in answers (omega arith)) (λ _. answers (omega arith))))

module _ (t : List ℕ) (f f' : ℕ) (enough : length t < f) (enough' : length t < f') where
  runs_of : (p : ℕ → Bool) (i : ℕ) → i ≤ length t → Ensures t (far t) (Gathered p t i) (gather p f i) (gather p f' i)
  runs_of p i h = gathers p t (far t) f f' i h (omega arith) (omega arith) (omega arith)

  -- The digits before and after are already no more than the cells up to i.
  exponents : (lo : ℕ) (b a : List ℕ) (i : ℕ) → lo ≤ i → i ≤ length t → length (or_zero b) + length a ≤ i
      → Ensures t (far t) (λ r. Fine (length t) lo r.0 r.1) (read_exponent f b a i) (read_exponent f' b a i)
  exponents lo b a i l h z = asks (omega arith) (tests (is 0x65 (cell_at t i) || is 0x45 (cell_at t i))
      (λ g. let m = letter g in binds (signs t (i + 1) (omega arith)) (λ s k. binds (runs_of is_digit s.1 k.1)
      (λ e q. let n = gathered_length q in let w = q.run_ends.from in answers (fine (length t) lo e.1 q.run_ends.within (omega (arith, digits-length (or_zero b) a e.0)) (omega arith) refl))))
      (λ _. answers (fine (length t) lo i h (omega (arith, digits-length (or_zero b) a [])) l refl)))
    where
      letter : is 0x65 (cell_at t i) || is 0x45 (cell_at t i) ≡ true → i < length t
      letter g = either (is 0x65 (cell_at t i)) g (cell_there _ t i) (cell_there _ t i)

  -- It begins with a digit, or with a point before a digit.
  abbrev Begins : ℕ → Type 0
  Begins i = (j : ℕ) → Passed is_digit t i j → is 0x2E (cell_at t j) ≡ false ⊎ holds is_digit (cell_at t (j + 1)) ≡ false → i < j

  numbers : (i : ℕ) → i ≤ length t → Begins i → Ensures t (far t) (λ r. Fine (length t) (suc i) r.0 r.1) (read_number f i) (read_number f' i)
  numbers i h begins = binds (runs_of is_digit i h) (λ b k.
      let j = b.1 in
      let d = k.run_ends in
      let n = gathered_length k in
      let from = d.from in
      let within = d.within in
      let z = zero_length b.0 in
      asks (omega arith) (tests (is 0x2E (cell_at t j))
      (λ _. asks (omega arith) (tests (holds is_digit (cell_at t (j + 1)))
      (λ g. let l = cell_there is_digit t (j + 1) g in binds (runs_of is_digit (j + 1) (omega arith))
      (λ a q. let m = gathered_length q in let u = passed_more q.run_ends g in exponents (suc i) b.0 a.0 a.1 (omega arith) q.run_ends.within (omega arith)))
      (λ g. let m = begins j d (inr g) in answers (fine (length t) (suc i) j within (omega (arith, digits-length (or_zero b.0) [] [])) m refl))))
      (λ g. let m = begins j d (inl g) in exponents (suc i) b.0 [] j m within (omega arith))))

  pub numbers_digit : (i : ℕ) → holds is_digit (cell_at t i) ≡ true → Ensures t (far t) (λ r. Fine (length t) (suc i) r.0 r.1) (read_number f i) (read_number f' i)
  numbers_digit i h = let l = cell_there is_digit t i h in numbers i (omega arith) (λ j d _. passed_more d h)

  pub numbers_point : (i : ℕ) → is 0x2E (cell_at t i) ≡ true → holds is_digit (cell_at t (i + 1)) ≡ true → Ensures t (far t) (λ r. Fine (length t) (suc i) r.0 r.1) (read_number f i) (read_number f' i)
  numbers_point i h g = let l = cell_there (eqb 0x2E) t i h in numbers i (omega arith) (λ j d e. by_order i j (λ m. m) (λ m. let q : j ≡ i = let w = d.from in omega arith in
      absurd (false≢true (⊎_elim (λ a. sym a ∙ rw q h) (λ a. sym a ∙ rw q g) e))))
