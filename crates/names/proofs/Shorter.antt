-- Trimming makes no text longer, and a leading space is the most that joining adds to a part.
use mathlib.Core.Path.{◌≡◌, refl}
use mathlib.Core.Bool.{Bool, true, false, ◌||◌}
use mathlib.Core.List.{List, [], ◌∷◌, reverse}
use Prim.Native.Nat.{ℕ, suc, ◌+◌, ◌≤◌, min}
use native.Mathlib.Omega.{arith}
use lib.ListN.{length, length-reverse}
use Rattle.reading.proofs.Test.{by_test}
use Rattle.text.specs.Classes.{is_white}
use Rattle.names.specs.Trim.{trim_front, trim}
use Rattle.names.specs.Name.{is_symbol_text, led}

trim-front-length : (w : List ℕ) → length (trim_front w) ≤ length w
trim-front-length [] = omega arith
trim-front-length (x ∷ w) = by_test (λ v. length v ≤ suc (length w)) (is_white x) (λ _. omega (arith, trim-front-length w)) (λ _. omega arith)

pub trim-length : (w : List ℕ) → length (trim w) ≤ length w
unfolding trim
trim-length w =
    omega (arith, length-reverse (trim_front (reverse (trim_front w))), trim-front-length (reverse (trim_front w)), length-reverse (trim_front w), trim-front-length w)

pub led-length : (w : List ℕ) → length (led false w) ≤ length w + min 1 (length w)
led-length [] = omega arith
led-length (x ∷ w) = by_test (λ v. length v ≤ suc (length w) + min 1 (suc (length w))) (is_symbol_text (x ∷ w) || false) (λ _. omega arith) (λ _. omega arith)

pub led-symbol : (tight : Bool) (w : List ℕ) → is_symbol_text w ≡ true → length (led tight w) ≡ length w
led-symbol true w h = refl
led-symbol false w h = rw h
