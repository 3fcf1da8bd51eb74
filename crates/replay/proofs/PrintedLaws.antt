-- Runs of cells that are printed together, and how far they go.
use Rattle.std.proofs.Common.{◌≡◌, ℕ, ◌+◌, ◌≤◌, ◌<◌, cond, List, [], ◌∷◌, length, get_or, refl, ap, ◌∙◌, arith}
use Rattle.std.specs.List.{prefix_len, take_while}
use Rattle.std.proofs.lemmas.List.Folds.{length-prefix_len}
use Rattle.std.proofs.lemmas.List.Sums.{prefix_len-le-length}
use borrow.Author.Tests.{lt-ltb, le-ltb}
use lib.Dec.{eqb}
use Rattle.reading.specs.Span.{span}
use Rattle.names.proofs.SameLaws.{eqb_sym}
use Rattle.replay.specs.Printed.{alike, piece_at}

run_is : (c : ℕ) (t : List ℕ) → prefix_len (λ x. eqb x c) t ≡ span (eqb c) t
run_is c [] = refl
run_is c (x ∷ t) = ap (λ b. cond b (1 + prefix_len (λ x. eqb x c) t) 0) (eqb_sym x c) ∙ ap (λ n. cond (eqb c x) n 0) (omega (arith, run_is c t))

-- What is printed at once is not empty, and ends within the cells.
module _ (t : List ℕ) {n : ℕ} (e : n ≡ length (take_while (λ x. eqb x (get_or t 0 0)) t)) where
  first : n ≡ prefix_len (λ x. eqb x (get_or t 0 0)) t
  first = e ∙ length-prefix_len (λ x. eqb x (get_or t 0 0)) t

  counted : n ≡ alike t 0
  counted = first ∙ run_is (get_or t 0 0) t

  pub piece_one : n < 4 → 1 ≡ piece_at t 0
  piece_one g = rw (lt-ltb (alike t 0) 4 (omega (arith, counted, g)))

  pub piece_all : 4 ≤ n → (n ≡ piece_at t 0) × (0 < n) × (n ≤ length t)
  piece_all g = (rw (le-ltb (alike t 0) 4 (omega (arith, counted, g))) counted, omega arith, omega (arith, first, prefix_len-le-length (λ x. eqb x (get_or t 0 0)) t))
