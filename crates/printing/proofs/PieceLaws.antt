-- A loop that writes a piece for each element of a list, one behind the other: what is written and what is still to come are all pieces.
use mathlib.Core.Path.{◌≡◌, sym, ap, ◌∙◌}
use mathlib.Core.List.{List, [], ◌∷◌, ◌++◌, append-nil, append_assoc}
use Prim.Native.Nat.{ℕ, suc, ◌+◌, ◌≤◌, ◌<◌}
use native.Mathlib.Numerals.{add-one}
use native.Mathlib.Omega.{arith}
use lib.ListN.{length, get_or, drop, length-append, drop_of_length-le}
use lib.Seq.{drop-cons}

-- The pieces of a list's elements, the first of which is number n.
abbrev pub pieces : {A : Type 0} → (ℕ → A → List ℕ) → ℕ → List A → List ℕ
pieces f n [] = []
pieces f n (x ∷ xs) = f n x ++ pieces f (suc n) xs

module _ {A : Type 0} (f : ℕ → A → List ℕ) (xs : List A) where
  -- Behind o₀ the pieces of the elements below i are written.
  pub record Writing (o₀ : List ℕ) (i : ℕ) (o : List ℕ) : Type 0 where
    pub so : o ++ pieces f i (drop i xs) ≡ o₀ ++ pieces f 0 xs

  pub writing_all : {o₀ : List ℕ} {i : ℕ} {o : List ℕ} → Writing o₀ i o → length xs ≤ i → o ≡ o₀ ++ pieces f 0 xs
  writing_all {o = o} w h = sym (append-nil o) ∙ (rw (drop_of_length-le xs h) at w.so)

  module _ (d : A) {o₀ : List ℕ} {i : ℕ} {o : List ℕ} (w : Writing o₀ i o) (h : i < length xs) where
    next : (o ++ f i (get_or xs i d)) ++ pieces f (suc i) (drop (suc i) xs) ≡ o₀ ++ pieces f 0 xs
    next = append_assoc o (f i (get_or xs i d)) (pieces f (suc i) (drop (suc i) xs)) ∙ (rw (drop-cons xs i d h) at w.so)

    -- There is room for it, as there is for all.
    pub writing_room : length o + length (f i (get_or xs i d)) ≤ length o₀ + length (pieces f 0 xs)
    writing_room =
        let v = o ++ f i (get_or xs i d) in
        omega (arith, ap length next, length-append v (pieces f (suc i) (drop (suc i) xs)), length-append o (f i (get_or xs i d)), length-append o₀ (pieces f 0 xs))

    pub writing_more : {o' : List ℕ} → o' ≡ o ++ f i (get_or xs i d) → Writing o₀ (i + 1) o'
    writing_more e = record { so = rw (e, add-one) next }
