-- The fields of a line, each with its space, and the lines of a record as pieces.
use mathlib.Core.Path.{◌≡◌, refl, ap}
use mathlib.Core.Bool.{cond}
use mathlib.Core.List.{List, [], ◌∷◌, ◌++◌, map}
use Prim.Native.Nat.{ℕ, suc, ◌+◌}
use native.Mathlib.Omega.{arith}
use lib.ListN.{length, length-append}
use Rattle.reading.specs.Codes.{codes}
use Rattle.runs.specs.Item.{Item}
use Rattle.runs.specs.Record.{item_of}
use Rattle.runs.specs.Print.{decimal, value_field, line, lines, refused_line}
use Rattle.printing.proofs.PieceLaws.{pieces}

module _ (a m b p q v s e : List ℕ) where
  sizes : length (a ++ s ++ m ++ b ++ s ++ p ++ s ++ q ++ s ++ v ++ e) ≡ length a + length (m ++ b ++ s) + length p + length q + length v + (length s + length s + length s + length e)
  sizes = simp length-append (omega arith)

abbrev pub type_field : Item → List ℕ
type_field i = cond i.is_refusal (codes "R") [] ++ decimal i.number ++ codes " "

pub line-size : (n : ℕ) (i : Item) → length (line n i) ≡ length (decimal n) + length (type_field i) + length (decimal i.position) + length (decimal i.reach) + length (value_field i) + 4
line-size n i = sizes (decimal n) _ (decimal i.number) (decimal i.position) (decimal i.reach) (value_field i) (codes " ") (codes "\n")

pub refused_size : (n p : ℕ) → length (refused_line n p) ≡ length (decimal n) + length (decimal p) + 3
refused_size n p = simp length-append (omega arith)

-- A row's line.
abbrev pub row_line : List ℕ → ℕ → List ℕ → List ℕ
row_line store n r = line n (item_of store r)

pub lines_are : (store : List ℕ) (n : ℕ) (rs : List (List ℕ)) → pieces (row_line store) n rs ≡ lines n (map (item_of store) rs)
lines_are store n [] = refl
lines_are store n (r ∷ rs) = ap (λ ls. row_line store n r ++ ls) (lines_are store (suc n) rs)
