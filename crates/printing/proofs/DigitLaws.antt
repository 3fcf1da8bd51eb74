-- The digits of a number, written from the last to the first.
use mathlib.Core.Path.{◌≡◌, refl, ap, ◌∙◌}
use mathlib.Core.Bool.{true, false, cond}
use mathlib.Core.List.{List, [], ◌∷◌}
use Prim.Native.Nat.{ℕ, zero, suc, ◌-◌, ◌/◌, ◌%◌, ◌≤◌, ◌<◌}
use native.Mathlib.Omega.{arith}
use lib.Dec.{ltb}
use lib.ListN.{length, take, drop, set, length-set, length-drop, drop_of_length-le}
use lib.Seq.{take_all}
use Rattle.runs.specs.Print.{digit, digits_in}

set-drop : (l : List ℕ) (j x : ℕ) → j < length l → drop j (set l j x) ≡ x ∷ drop (suc j) l
set-drop [] j x h = absurd (omega arith)
set-drop (y ∷ l) zero x h = refl
set-drop (y ∷ l) (suc j) x h = set-drop l j x (omega arith)

-- The digits so far stand from the place i on, and those of m are still to come before them.
pub record Digits (base n : ℕ) (ds : List ℕ) (i m : ℕ) : Type 0 where
  pub ten : length ds ≡ 10
  pub within : i ≤ 10
  pub all : digits_in base i m (drop i ds) ≡ digits_in base 10 n []

pub digits_none : (base n : ℕ) (ds : List ℕ) → length ds ≡ 10 → Digits base n ds 10 n
digits_none base n ds h = record { ten = h; within = omega arith; all = ap (digits_in base 10 n) (drop_of_length-le ds {i = 10} (omega arith)) }

module _ {base n : ℕ} {ds : List ℕ} {i m : ℕ} (d : Digits base n ds i m) (j : ℕ) {x : ℕ} (one : i ≡ suc j) (e : x ≡ digit (m % base)) where
  step : cond (ltb m base) (digit (m % base) ∷ drop (suc j) ds) (digits_in base j (m / base) (digit (m % base) ∷ drop (suc j) ds)) ≡ digits_in base 10 n []
  unfolding digits_in
  step = rw one at d.all

  written : drop j (set ds j x) ≡ digit (m % base) ∷ drop (suc j) ds
  written = rw (← e) (set-drop ds j x (omega (arith, d.ten, d.within)))

  -- The last digit: all of them stand from its place on.
  pub digits_last : ltb m base ≡ true → take (10 - j) (drop j (set ds j x)) ≡ digits_in base 10 n []
  digits_last h =
      let l : length (drop j (set ds j x)) ≤ 10 - j = omega (arith, length-drop j (set ds j x), length-set ds j x, d.ten) in
      take_all (10 - j) (drop j (set ds j x)) l ∙ written ∙ (rw h at step)

  pub digits_more : ltb m base ≡ false → Digits base n (set ds j x) j (m / base)
  digits_more h = record { ten = length-set ds j x ∙ d.ten; within = omega (arith, d.within); all = ap (digits_in base j (m / base)) written ∙ (rw h at step) }

pub digits-all : {base n : ℕ} {ds : List ℕ} {i m : ℕ} → Digits base n ds i m → i ≡ 0 → ds ≡ digits_in base 10 n []
unfolding digits_in
digits-all d z = rw z at d.all
