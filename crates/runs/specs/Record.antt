-- The number form of a record: a row of eleven numbers an item, and one store of value cells.
use Rattle.std.specs.Prelude.{List, [], ◌∷◌, ◌++◌, map, ℕ, ◌+◌, eqb, length, get_or, take, drop}
pub use Rattle.lexer.specs.FlagBits.{flag_bits, has_bit, bit_flags}
use Rattle.runs.specs.Item.{Item, bit}
use Rattle.runs.specs.Edit.{Edit}
use Rattle.runs.specs.Run.{Reader}
use Rattle.runs.specs.Repair.{repair_items}

pub record Record : Type 0 where
  pub rows : List (List ℕ)
  pub store : List ℕ

-- The places in a row.
abbrev pub refused_at : ℕ
refused_at = 0

abbrev pub number_at : ℕ
number_at = 1

abbrev pub position_at : ℕ
position_at = 2

abbrev pub flags_at : ℕ
flags_at = 3

abbrev pub reach_at : ℕ
reach_at = 4

abbrev pub start_at : ℕ
start_at = 5

abbrev pub length_at : ℕ
length_at = 6

abbrev pub before_at : ℕ
before_at = 7

abbrev pub after_at : ℕ
after_at = 8

abbrev pub exponent_at : ℕ
exponent_at = 9

abbrev pub extra_at : ℕ
extra_at = 10

-- A row, in that order, of an item whose value starts at `start`.
abbrev pub row_of : ℕ → Item → List ℕ
row_of start i =
    bit i.is_refusal ∷ i.number ∷ i.position ∷ flag_bits i.flags ∷ i.reach ∷ start ∷ length i.value ∷ i.lengths.before ∷ i.lengths.after ∷ i.lengths.exponent ∷ i.extra ∷ []

-- 01: each value is written into the value store where the last one ended.
abbrev pub rows_from : ℕ → List Item → List (List ℕ)
rows_from start [] = []
rows_from start (i ∷ is) = row_of start i ∷ rows_from (start + length i.value) is

abbrev pub store_of : List Item → List ℕ
store_of [] = []
store_of (i ∷ is) = i.value ++ store_of is

abbrev pub pack : List Item → Record
pack is = record { rows = rows_from 0 is; store = store_of is }

-- Reading back.
abbrev pub item_of : List ℕ → List ℕ → Item
item_of store r = record {
  is_refusal = eqb (get_or r refused_at 0) 1;
  number = get_or r number_at 0;
  position = get_or r position_at 0;
  flags = bit_flags (get_or r flags_at 0);
  reach = get_or r reach_at 0;
  value = take (get_or r length_at 0) (drop (get_or r start_at 0) store);
  lengths = record { before = get_or r before_at 0; after = get_or r after_at 0; exponent = get_or r exponent_at 0 };
  extra = get_or r extra_at 0;
}

abbrev pub unpack : Record → List Item
unpack r = map (item_of r.store) r.rows

-- Repair of a record: its items are repaired, and their values laid one after the other.
abbrev pub repair : Reader → Edit → Record → List ℕ → Record
repair tok e r part = pack (repair_items tok e (unpack r) part)
