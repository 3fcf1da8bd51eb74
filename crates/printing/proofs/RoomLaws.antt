-- How much is printed at most: ten digits a number, and a comma with each code point.
use mathlib.Core.Bool.{Bool, true, false, cond}
use mathlib.Core.List.{List, [], ◌∷◌, ◌++◌}
use Prim.Native.Nat.{ℕ, zero, suc, ◌+◌, ◌*◌, ◌/◌, ◌%◌, ◌≤◌}
use native.Mathlib.Omega.{arith}
use lib.Dec.{ltb, eqb}
use lib.ListN.{length, length-append}
use Rattle.reading.specs.Cells.{is_one_of}
use Rattle.reading.specs.Codes.{codes}
use Rattle.reading.proofs.Test.{by_test}
use Rattle.lexer.specs.Read.{text_types}
use Rattle.lexer.specs.TokenType
use Rattle.runs.specs.Item.{Item}
use Rattle.runs.specs.Record.{store_of}
use Rattle.runs.specs.Print.{digit, digits_in, decimal, hexadecimal, joined_by_comma, has_carry, value_field, line, lines, refused_line}
use Rattle.printing.proofs.ValueLaws.{number_size}
use Rattle.printing.proofs.LineLaws.{line-size, refused_size}

digits_short : (base k n : ℕ) (ds : List ℕ) → length (digits_in base k n ds) ≤ k + length ds
unfolding digits_in
digits_short base zero n ds = omega arith
digits_short base (suc k) n ds =
    let rest = digit (n % base) ∷ ds in
    by_test (λ l. length l ≤ suc k + length ds) (ltb n base) {x = rest} {y = digits_in base k (n / base) rest} (λ _. omega arith) (λ _. omega (arith, digits_short base k (n / base) rest))

ten : (base n : ℕ) → length (digits_in base 10 n []) ≤ 10
ten base n = digits_short base 10 n []

points_short : (cs : List ℕ) → length (joined_by_comma cs) ≤ 11 * length cs
points_short [] = omega arith
points_short (c ∷ []) = omega (arith, ten 16 c)
points_short (c ∷ d ∷ cs) = omega (arith, ten 16 c, points_short (d ∷ cs), length-append (hexadecimal c ++ codes ",") (joined_by_comma (d ∷ cs)), length-append (hexadecimal c) (codes ","))

value_short : (i : Item) → length (value_field i) ≤ 10 + 11 * length i.value
value_short i = by_test P i.is_refusal
    (λ _. by_test P (has_carry i.number) (λ _. omega (arith, ten 16 i.extra)) (λ _. omega arith))
    (λ _. by_test P (eqb TokenType.Numeric i.number) (λ _. omega (arith, number_size i.lengths.before i.lengths.after i.extra i.value))
    (λ _. by_test P (is_one_of text_types i.number) (λ _. omega (arith, points_short i.value))
    (λ _. by_test P (eqb TokenType.Boolean i.number) (λ _. by_test P (eqb i.extra 1) (λ _. omega arith) (λ _. omega arith))
    (λ _. omega arith))))
  where
    P : List ℕ → Type 0
    P l = length l ≤ 10 + 11 * length i.value

mark_short : (b : Bool) → length (cond b (codes "R") []) ≤ 1
mark_short true = omega arith
mark_short false = omega arith

line_short : (n : ℕ) (i : Item) → length (line n i) ≤ 56 + 11 * length i.value
line_short n i =
    let m = mark_short i.is_refusal in
    let t = length-append (cond i.is_refusal (codes "R") [] ++ decimal i.number) (codes " ") in
    let u = length-append (cond i.is_refusal (codes "R") []) (decimal i.number) in
    omega (arith, line-size n i, ten 10 n, ten 10 i.number, ten 10 i.position, ten 10 i.reach, value_short i)

pub lines_short : (n : ℕ) (is : List Item) → length (lines n is) ≤ 56 * length is + 11 * length (store_of is)
lines_short n [] = omega arith
lines_short n (i ∷ is) = omega (arith, line_short n i, lines_short (suc n) is, length-append (line n i) (lines (suc n) is), length-append i.value (store_of is))

pub refused_short : (n p : ℕ) → length (refused_line n p) ≤ 23
refused_short n p = omega (arith, refused_size n p, ten 10 n, ten 10 p)
