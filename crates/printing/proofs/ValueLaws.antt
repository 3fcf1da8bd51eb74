-- How long a number is, and the code points of a text with a comma before each but the first.
use mathlib.Core.Path.{◌≡◌, refl}
use mathlib.Core.Bool.{Bool, true, false, cond}
use mathlib.Core.List.{List, [], ◌∷◌, ◌++◌, append-nil, append_assoc}
use Prim.Native.Nat.{ℕ, suc, ◌+◌}
use native.Mathlib.Omega.{arith}
use lib.Dec.{ltb, eqb}
use borrow.Author.Tests.{lt-ltb}
use lib.ListN.{length, length-append, length-take, length-drop}
use Rattle.reading.specs.Codes.{codes}
use Rattle.runs.specs.Print.{hexadecimal, joined_by_comma, number_field}
use Rattle.printing.proofs.PieceLaws.{pieces}

sign_size : (b : Bool) → length (cond b (codes "-") (codes "+")) ≡ 1
sign_size true = refl
sign_size false = refl

pub number_size : (before after sign : ℕ) (v : List ℕ) → length (number_field before after sign v) ≡ length v + 4
number_size before after sign v =
    let s = sign_size (eqb sign 1) in
    simp (length-append, length-take, length-drop) (omega arith)

-- A code point, behind a comma unless it is the first.
abbrev pub point : ℕ → ℕ → List ℕ
point n c = cond (ltb 0 n) (codes ",") [] ++ hexadecimal c

points_behind : (n c : ℕ) (cs : List ℕ) → hexadecimal c ++ pieces point (suc n) cs ≡ joined_by_comma (c ∷ cs)
points_behind n c [] = append-nil (hexadecimal c)
points_behind n c (d ∷ cs) = rw (lt-ltb 0 (suc n) (omega arith), append_assoc, append_assoc, points_behind (suc n) d cs)

pub points : (cs : List ℕ) → pieces point 0 cs ≡ joined_by_comma cs
points [] = refl
points (c ∷ cs) = points_behind 0 c cs
