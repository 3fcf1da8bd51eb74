-- A stored item and its row undo each other, as flags and their bits do (`bits_back`).
use mathlib.Core.Path.{◌≡◌, refl, ap, ◌∙◌}
use mathlib.Core.Bool.{Bool, true, false}
use mathlib.Core.List.{List, [], ◌∷◌, map}
use Prim.Native.Nat.{ℕ, ◌+◌}
use lib.Dec.{eqb}
use lib.ListN.{length, get_or}
use Rattle.lexer.specs.Flags as spec
use Rattle.lexer.specs.FlagsOf.{flags_of}
use Rattle.runs.specs.Item.{Item, bit}
use Rattle.runs.specs.Record.{flag_bits, bit_flags, number_at, position_at, reach_at, start_at, length_at, before_at, after_at, exponent_at, extra_at, row_of, rows_from}
use Rattle.runs.proofs.RecordLaws.{bits_back}
use Rattle.records.specs.declared.stored.Stored.{Stored}
use Rattle.records.specs.Stored.{flags_from, stored_of, row_from}

bit_back : (b : Bool) → eqb (bit b) 1 ≡ b
bit_back true = refl
bit_back false = refl

-- A stored item and a row, with the places that are told in other words left open.
abbrev stored_with : Bool → spec.Flags → List ℕ → Stored
stored_with b f r = record {
  refused = b;
  number = get_or r number_at 0;
  position = get_or r position_at 0;
  flags = flags_from f;
  reach = get_or r reach_at 0;
  start = get_or r start_at 0;
  length = get_or r length_at 0;
  before = get_or r before_at 0;
  after = get_or r after_at 0;
  exponent = get_or r exponent_at 0;
  extra = get_or r extra_at 0;
}

abbrev row_with : Bool → spec.Flags → ℕ → List ℕ → List ℕ
row_with b f n r =
    bit b ∷ get_or r number_at 0 ∷ get_or r position_at 0 ∷ flag_bits f ∷ get_or r reach_at 0 ∷ get_or r start_at 0 ∷ n ∷ get_or r before_at 0 ∷ get_or r after_at 0 ∷ get_or r exponent_at 0 ∷ get_or r extra_at 0 ∷ []

-- What is written reads back as the same item.
pub stored_back : (i : Stored) → stored_of (row_from i) ≡ i
stored_back i =
    ap (λ b. stored_with b (bit_flags (flag_bits (flags_of i.flags))) (row_from i)) (bit_back i.refused) ∙ ap (λ f. stored_with i.refused f (row_from i)) (bits_back (flags_of i.flags))

pub all_back : (is : List Stored) → map stored_of (map row_from is) ≡ is
all_back [] = refl
all_back (i ∷ is) = ap (λ j. j ∷ map stored_of (map row_from is)) (stored_back i) ∙ ap (λ js. i ∷ js) (all_back is)

-- The row of an item of a run is written again as it was read.
row_of_item : (start : ℕ) (i : Item) → row_from (stored_of (row_of start i)) ≡ row_of start i
row_of_item start i =
    ap (λ b. row_with b (bit_flags (flag_bits i.flags)) (length i.value) (row_of start i)) (bit_back i.is_refusal) ∙ ap (λ f. row_with i.is_refusal f (length i.value) (row_of start i)) (bits_back i.flags)

pub rows_back : (start : ℕ) (is : List Item) → map row_from (map stored_of (rows_from start is)) ≡ rows_from start is
rows_back start [] = refl
rows_back start (i ∷ is) =
    ap (λ r. r ∷ map row_from (map stored_of (rows_from (start + length i.value) is))) (row_of_item start i) ∙ ap (λ rs. row_of start i ∷ rs) (rows_back (start + length i.value) is)
