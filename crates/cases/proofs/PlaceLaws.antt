-- The first space ends a field.
use Rattle.std.proofs.Common.{◌≡◌, ℕ, suc, ◌+◌, ◌<◌, ◌≤◌, min, max, Bool, true, false, not, cond, List, [], ◌∷◌, length, drop, add-zero, refl, ap, ◌∙◌, arith, length-drop, get_or, get_or-drop}
use Rattle.std.specs.Prelude.{Option, Some, None}
use Rattle.std.specs.Option.{option_eq}
use Rattle.std.specs.List.{slice_get, prefix_len, position, position_or_len}
use borrow.Author.Tests.{ltb-true, ltb-false}
use lib.Dec.{eqb, ltb}
use Rattle.reading.specs.Look.{cell_at}
use Rattle.reading.specs.Cells.{is}
use Rattle.reading.proofs.Cell.{cell-drop}
use Rattle.reading.proofs.Test.{by_test}
use Rattle.names.proofs.SameLaws.{eqb_sym}
use Rattle.cases.specs.Fields.{to_next, next_field}

module _ (p : ℕ → Bool) where
  -- What is found, and what it says of the first place.
  pub found : (xs : List ℕ) {n : ℕ} → Some n ≡ position p xs → (n ≡ position_or_len p xs) × (n < length xs)
  found xs {n} e = by_test (λ (o : Option ℕ). Some n ≡ o → (n ≡ position_or_len p xs) × (n < length xs)) (ltb (position_or_len p xs) (length xs)) (λ t e. let z : n ≡ position_or_len p xs = (cc) in (z, omega (arith, z, ltb-true (position_or_len p xs) (length xs) t))) (λ f e. absurd (cc)) e

  pub missed : (xs : List ℕ) → None ≡ position p xs → length xs ≤ position_or_len p xs
  missed xs e = by_test (λ (o : Option ℕ). None ≡ o → length xs ≤ position_or_len p xs) (ltb (position_or_len p xs) (length xs)) (λ t e. absurd (cc)) (λ f e. ltb-false (position_or_len p xs) (length xs) f) e

pub next_is : (xs : List ℕ) → to_next xs ≡ min (position_or_len (λ x. eqb x 0x20) xs + 1) (length xs)
unfolding to_next
next_is [] = omega arith
next_is (x ∷ xs) =
    elim (eqb x 0x20) as (λ t. cond t 1 (suc (to_next xs)) ≡ min (cond (not t) (1 + prefix_len (λ c. not (eqb c 0x20)) xs) 0 + 1) (suc (length xs)))
    [ true ↦ omega arith | false ↦ omega (arith, next_is xs) ]

module _ (l : List ℕ) (i : ℕ) {r : List ℕ} (e : r ≡ drop i l) where
  pub next_found : {n : ℕ} → Some n ≡ position (λ x. eqb x 0x20) r → i + (n + 1) ≡ next_field l i
  next_found {n} g = let f = found (λ x. eqb x 0x20) (drop i l) (rw e at g) in omega (arith, f.0, f.1, next_is (drop i l))

  pub next_missed : None ≡ position (λ x. eqb x 0x20) r → max i (length l) ≡ next_field l i
  next_missed g = omega (arith, missed (λ x. eqb x 0x20) (drop i l) (rw e at g), next_is (drop i l), length-drop i l)

-- The first byte of what is left is compared with another.
first_is : (b : ℕ) (r : List ℕ) → option_eq eqb (slice_get r 0) (Some b) ≡ is b (cell_at r 0)
unfolding cell_at
first_is b [] = refl
first_is b (x ∷ r) = eqb_sym x b

pub is_there : (b : ℕ) (l : List ℕ) (i : ℕ) → option_eq eqb (slice_get (drop i l) 0) (Some b) ≡ is b (cell_at l i)
is_there b l i = first_is b (drop i l) ∙ ap (is b) (cell-drop i l 0 ∙ ap (cell_at l) (add-zero i))

-- A loop over the rest of a line: the byte at k of the rest stands at j of the line.
module _ (l : List ℕ) (i k : ℕ) {r : List ℕ} {j : ℕ} (e : r ≡ drop i l) (d : j ≡ i + k) where
  pub rest_item : get_or r k 0 ≡ get_or l j 0
  rest_item = rw (e, d) (get_or-drop i l k 0)

  pub rest_in : k < length r → j < length l
  rest_in h = omega (arith, ap length e, length-drop i l)

  pub rest_out : length r ≤ k → length l ≤ j
  rest_out h = omega (arith, ap length e, length-drop i l)
