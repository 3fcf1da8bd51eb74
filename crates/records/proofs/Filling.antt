-- The front of a list filled, element by element, with what a function makes of another list's first elements.
use mathlib.Core.Path.{◌≡◌, refl, ap, ◌∙◌, sym}
use mathlib.Core.List.{List, [], ◌∷◌, map}
use Prim.Native.Nat.{ℕ, zero, suc, ◌+◌, ◌≤◌, ◌<◌}
use native.Mathlib.Nat.{le_of_suc-le-suc, not-suc-le-zero}
use native.Mathlib.Numerals.{add-one}
use borrow.Author.Tests.{le-ltb}
use Rattle.std.specs.Prelude.{Ok}
use lib.ListN.{length, get_or, set, take}
use lib.Seq.{take-length}
use Rattle.reading.specs.Slices.{front}
use Rattle.records.specs.Items.{Copies}

module _ {A B : Type 0} (h : A → B) where
  abbrev pub filled : ℕ → List A → List B → List B
  filled n xs ys = front (map h (take n xs)) ys

  next : (d : A) (n : ℕ) (xs : List A) (ys : List B) → n < length xs → n < length ys → set (filled n xs ys) n (h (get_or xs n d)) ≡ filled (suc n) xs ys
  next d n [] ys p q = absurd (not-suc-le-zero p)
  next d n (x ∷ xs) [] p q = absurd (not-suc-le-zero q)
  next d zero (x ∷ xs) (y ∷ ys) p q = refl
  next d (suc n) (x ∷ xs) (y ∷ ys) p q = ap (λ zs. h x ∷ zs) (next d n xs ys (le_of_suc-le-suc p) (le_of_suc-le-suc q))

  pub filled_next : (d : A) (n : ℕ) (xs : List A) (ys : List B) → n < length xs → n < length ys → set (filled n xs ys) n (h (get_or xs n d)) ≡ filled (n + 1) xs ys
  filled_next d n xs ys p q = next d n xs ys p q ∙ ap (λ k. filled k xs ys) (sym (add-one n))

  -- All of a list are copied, which there is room for.
  pub copies_all : (xs : List A) (ys : List B) {n : ℕ} → length xs ≤ length ys → n ≡ length xs → {zs : List B} → zs ≡ filled n xs ys → Copies h xs ys (Ok tt) zs
  copies_all xs ys o e p = record {
    answer = rw (le-ltb (length ys) (length xs) o) refl;
    left = p ∙ rw (e, take-length, le-ltb (length ys) (length xs) o) refl;
  }
