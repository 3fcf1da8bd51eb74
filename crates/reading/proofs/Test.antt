-- What follows from a computed test.
use mathlib.Core.Path.{◌≡◌, refl, sym}
use mathlib.Core.Bool.{Bool, true, false, cond, ◌&&◌, ◌||◌, true≢false, false≢true}
use mathlib.Core.List.{List, [], ◌∷◌}
use Prim.Native.Nat.{ℕ, zero, suc, ◌≤◌, ◌<◌}
use native.Mathlib.Nat.{not-suc-le-zero}
use native.Mathlib.Omega.{arith}
use lib.Dec.{ltb, eqb}
use borrow.Author.Tests.{ltb-true, ltb-false, eqb-true, ne_eqb}
pub use Rattle.std.proofs.lemmas.Bool.{and_parts as both}
use Rattle.std.proofs.lemmas.Bool.{or_parts}
use Rattle.reading.specs.Cells.{is_one_of}

pub by_test : {A : Type 0} (P : A → Type 0) (b : Bool) {x y : A} → (b ≡ true → P x) → (b ≡ false → P y) → P (cond b x y)
by_test P true f g = f refl
by_test P false f g = g refl

pub either : {X : Type 0} (b : Bool) {c : Bool} → b || c ≡ true → (b ≡ true → X) → (c ≡ true → X) → X
either true h f g = f refl
either false h f g = g h

pub or_left : (a b : Bool) → a || b ≡ false → a ≡ false
or_left a b h = (or_parts a b h).0

pub or_right : (a b : Bool) → a || b ≡ false → b ≡ false
or_right a b h = (or_parts a b h).1

-- What is not k fails the test for it.
pub other : {c k : ℕ} → (c ≡ k → ⊥) → eqb k c ≡ false
other {c} {k} h = ne_eqb k c (λ e. h (sym e))

pub by_order : {Z : Type 0} (i n : ℕ) → (i < n → Z) → (n ≤ i → Z) → Z
by_order {Z} i n f g = go (ltb i n) refl
  where
    go : (b : Bool) → ltb i n ≡ b → Z
    go true e = f (ltb-true i n e)
    go false e = g (ltb-false i n e)

-- A test that every number below n passes, computed once, holds of each of them.
abbrev pub all_below : (ℕ → Bool) → ℕ → Bool
all_below p zero = true
all_below p (suc n) = p n && all_below p n

pub below : (p : ℕ → Bool) (n : ℕ) → all_below p n ≡ true → (k : ℕ) → k < n → p k ≡ true
below p zero h k l = absurd (not-suc-le-zero l)
below p (suc n) h k l =
    let b = both (p n) _ h in
    by_order k n (λ m. below p n b.1 k m) (λ m. let e : n ≡ k = omega arith in rw e at b.0)

-- A test that each of some characters passes, computed once, holds of one of them.
abbrev pub all_of : {A : Type 0} → (A → Bool) → List A → Bool
all_of p [] = true
all_of p (x ∷ xs) = p x && all_of p xs

pub every : (p : ℕ → Bool) (xs : List ℕ) (c : ℕ) → all_of p xs ≡ true → is_one_of xs c ≡ true → p c ≡ true
every p [] c h g = absurd (false≢true g)
every p (x ∷ xs) c h g =
    let a = both (p x) _ h in
    either (eqb x c) g (λ e. rw (eqb-true x c e) at a.0) (λ k. every p xs c a.1 k)
