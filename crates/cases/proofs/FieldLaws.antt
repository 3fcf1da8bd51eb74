-- Each definition over the rest of the line goes one byte on, or ends: one law for each.
use mathlib.Core.Path.{◌≡◌, refl, sym, ap, ◌∙◌}
use mathlib.Core.Bool.{true, false}
use mathlib.Core.List.{List, []}
use Prim.Native.Nat.{ℕ, ◌+◌, ◌≤◌, ◌<◌}
use native.Mathlib.Numerals.{add-one}
use borrow.Author.Tests.{lt-ltb, le-ltb}
use native.Mathlib.Omega.{arith}
use lib.ListN.{length, get_or, drop, drop_of_length-le}
use lib.Seq.{drop-cons}
use Rattle.cases.specs.Fields.{digit_value, is_digit, with_digit, with_digits, number_at, digits_end}

module _ (base n : ℕ) (l : List ℕ) (i : ℕ) where
  pub digits-end : length l ≤ i → (with_digits base n (drop i l) ≡ n) × (digits_end base l i ≡ i)
  unfolding with_digits
  digits-end h = let e : drop i l ≡ [] = drop_of_length-le l h in (rw e, rw e (omega arith))

  pub digits_out : i < length l → base ≤ digit_value (get_or l i 0) → (with_digits base n (drop i l) ≡ n) × (digits_end base l i ≡ i)
  unfolding with_digits
  digits_out h g = let e : is_digit base (get_or l i 0) ≡ false = le-ltb (digit_value (get_or l i 0)) base g in (rw (drop-cons l i 0 h, e), rw (drop-cons l i 0 h, e) (omega arith))

  digits_more : i < length l → digit_value (get_or l i 0) < base → (with_digits base n (drop i l) ≡ with_digits base (with_digit base n (digit_value (get_or l i 0))) (drop (i + 1) l)) × (digits_end base l i ≡ digits_end base l (i + 1))
  unfolding with_digits
  digits_more h g = let e : is_digit base (get_or l i 0) ≡ true = lt-ltb (digit_value (get_or l i 0)) base g in (rw (drop-cons l i 0 h, e, add-one), rw (drop-cons l i 0 h, e, add-one) (omega arith))

-- A loop that reads digits from `from` on: it stands at i, and n is the number so far.
pub record Digits (base : ℕ) (l : List ℕ) (from n i : ℕ) : Type 0 where
  pub value : number_at base l from ≡ with_digits base n (drop i l)
  pub end : digits_end base l from ≡ digits_end base l i

pub digits_none : {base : ℕ} {l : List ℕ} {from : ℕ} → Digits base l from 0 from
digits_none = record { value = refl; end = refl }

module _ {base : ℕ} {l : List ℕ} {from n i : ℕ} (k : Digits base l from n i) where
  -- What a reader answers that stops here.
  pub digits_stop : (with_digits base n (drop i l) ≡ n) × (digits_end base l i ≡ i) → (n ≡ number_at base l from) × (i ≡ digits_end base l from)
  digits_stop e = (sym (k.value ∙ e.0), sym (k.end ∙ e.1))

  pub digits_next : {m d : ℕ} → i < length l → d ≡ digit_value (get_or l i 0) → d < base → m ≡ with_digit base n d → Digits base l from m (i + 1)
  digits_next {m} {d} h e g so =
      let s = digits_more base n l i h (rw (← e) g) in
      record {
        value = k.value ∙ s.0 ∙ ap (λ x. with_digits base x (drop (i + 1) l)) (sym (so ∙ ap (with_digit base n) e));
        end = k.end ∙ s.1;
      }
