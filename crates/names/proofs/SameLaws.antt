-- Comparing texts: by their lengths, pair by pair, and in either order.
use mathlib.Core.Path.{◌≡◌, refl, sym, ap, ◌∙◌}
use mathlib.Core.Bool.{Bool, true, false, ◌&&◌, false≢true}
use mathlib.Core.List.{List, [], ◌∷◌}
use Prim.Native.Nat.{ℕ, suc}
use native.Mathlib.Omega.{arith}
use lib.Dec.{eqb}
use lib.ListN.{length}
use borrow.Author.Tests.{eq-eqb, ne_eqb, eqb-true, eqb-false}
use Rattle.std.specs.List.{list_all, zip}
use Rattle.reading.proofs.Test.{both}
use Rattle.names.specs.Same.{same}

pub same_length : (s t : List ℕ) → (length s ≡ length t → ⊥) → same s t ≡ false
unfolding same
same_length [] [] h = absurd (h refl)
same_length [] (b ∷ y) h = refl
same_length (a ∷ x) [] h = refl
same_length (a ∷ x) (b ∷ y) h = rw (same_length x y (λ e. h (omega arith))) (both (eqb a b))
  where
    both : (p : Bool) → p && false ≡ false
    both true = refl
    both false = refl

-- Which of two is compared with which is the same.
pub eqb_sym : (a b : ℕ) → eqb a b ≡ eqb b a
eqb_sym a b = go (eqb a b) refl
  where
    go : (t : Bool) → eqb a b ≡ t → eqb a b ≡ eqb b a
    go true e = e ∙ sym (eq-eqb b a (sym (eqb-true a b e)))
    go false e = e ∙ sym (ne_eqb b a (λ z. eqb-false a b e (sym z)))

pub same_sym : (x y : List ℕ) → same x y ≡ same y x
unfolding same
same_sym [] [] = refl
same_sym [] (b ∷ y) = refl
same_sym (a ∷ x) [] = refl
same_sym (a ∷ x) (b ∷ y) = rw (eqb_sym a b, same_sym x y)

pub equal_length : (p x : List ℕ) → same p x ≡ true → length p ≡ length x
unfolding same
equal_length [] [] h = refl
equal_length [] (b ∷ x) h = absurd (false≢true h)
equal_length (a ∷ p) [] h = absurd (false≢true h)
equal_length (a ∷ p) (b ∷ x) h = ap suc (equal_length p x (both (eqb a b) (same p x) h).1)

-- Texts of one length, compared pair by pair.
pub same_zip : (s t : List ℕ) → length s ≡ length t → list_all (λ p. eqb p.0 p.1) (zip s t) ≡ same t s
unfolding same
same_zip [] [] h = refl
same_zip [] (b ∷ t) h = absurd (omega arith)
same_zip (a ∷ s) [] h = absurd (omega arith)
same_zip (a ∷ s) (b ∷ t) h = rw (eqb_sym a b, same_zip s t (omega arith))
