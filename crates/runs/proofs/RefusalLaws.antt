-- A refusal is told by its number, which is none of 0.
use mathlib.Core.Path.{◌≡◌, refl, sym, ap, ◌∙◌}
use mathlib.Core.Bool.{cond}
use Prim.Native.Nat.{ℕ, ◌<◌}
use native.Mathlib.Omega.{arith}
use lib.Dec.{eqb}
use Rattle.std.specs.Prelude.{Result, Ok, Err}
use Rattle.text.specs.declared.refusal.Refusal.{Refusal}
use Rattle.text.specs.declared.refusal.Refusal.TheVariants.{TooLong, NotUtf8, NoHexDigit, EndAtHexDigit, NoScalarValue, NoSecondHalf, EndAtSecondHalf, StartsWithIn, ShortSlice, BrokenScope, OverLimit, BeyondText, BrokenRequest}
use Rattle.text.specs.RefusalNumber.{number_of}
use Rattle.runs.specs.Ran.{numbered}

pub numbers_pos : (e : Refusal) → 0 < number_of e
numbers_pos TooLong = omega arith
numbers_pos NotUtf8 = omega arith
numbers_pos NoHexDigit = omega arith
numbers_pos EndAtHexDigit = omega arith
numbers_pos NoScalarValue = omega arith
numbers_pos NoSecondHalf = omega arith
numbers_pos EndAtSecondHalf = omega arith
numbers_pos StartsWithIn = omega arith
numbers_pos ShortSlice = omega arith
numbers_pos BrokenScope = omega arith
numbers_pos OverLimit = omega arith
numbers_pos BeyondText = omega arith
numbers_pos BrokenRequest = omega arith

refusal_of : ℕ → Refusal
refusal_of n =
    (cond (eqb n 1) TooLong (cond (eqb n 2) NotUtf8 (cond (eqb n 3) NoHexDigit (cond (eqb n 4) EndAtHexDigit (cond (eqb n 5) NoScalarValue (cond (eqb n 6) NoSecondHalf (cond (eqb n 7) EndAtSecondHalf (cond (eqb n 8) StartsWithIn (cond (eqb n 9) ShortSlice (cond (eqb n 10) BrokenScope (cond (eqb n 11) OverLimit (cond (eqb n 12) BeyondText BrokenRequest))))))))))))

back : (e : Refusal) → refusal_of (number_of e) ≡ e
unfolding refusal_of
back TooLong = refl
back NotUtf8 = refl
back NoHexDigit = refl
back EndAtHexDigit = refl
back NoScalarValue = refl
back NoSecondHalf = refl
back EndAtSecondHalf = refl
back StartsWithIn = refl
back ShortSlice = refl
back BrokenScope = refl
back OverLimit = refl
back BeyondText = refl
back BrokenRequest = refl

-- Two answers with one number are the same.
module _ {A : Type 0} where
  told : Result A ℕ → Result A Refusal
  told (Ok x) = Ok x
  told (Err n) = Err (refusal_of n)

  again : (r : Result A Refusal) → told (numbered r) ≡ r
  unfolding told
  again (Ok x) = refl
  again (Err e) = ap Err (back e)

  pub numbered-same : {r r' : Result A Refusal} → numbered r ≡ numbered r' → r ≡ r'
  numbered-same {r} {r'} h = sym (again r) ∙ ap told h ∙ again r'
