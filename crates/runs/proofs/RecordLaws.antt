-- Writing a record and reading it back are inverse, whatever lies behind the used store.
use mathlib.Core.Path.{◌≡◌, refl, sym, ap, ◌∙◌}
use mathlib.Core.Bool.{Bool, true, false, ◌&&◌}
use mathlib.Core.List.{List, [], ◌∷◌, ◌++◌, map, append_assoc}
use Prim.Native.Nat.{ℕ, suc, ◌+◌, ◌≤◌, ◌<◌}
use native.Mathlib.Omega.{arith}
use lib.Dec.{leb, eqb}
use borrow.Author.Tests.{leb-true, eqb-true}
use lib.ListN.{length, get_or, take, drop, length-append, length-take, length-drop, drop_of_length-le}
use lib.Seq.{take-append_seam, drop-append_seam, drop-cons}
use Rattle.reading.proofs.Test.{both, below}
use Rattle.lexer.specs.Flags.{Flags}
use Rattle.runs.specs.Item.{Item, bit}
use Rattle.runs.specs.Repair.{same_flags}
use Rattle.runs.specs.Record.{flag_bits, bit_flags, refused_at, flags_at, start_at, length_at, row_of, rows_from, store_of, item_of, unpack}
use Rattle.runs.specs.Request.{is_row}
use Rattle.runs.proofs.RepairLaws.{same_flags_lem}

bit_back : (b : Bool) → eqb (bit b) 1 ≡ b
bit_back true = refl
bit_back false = refl

-- A test that computes to true for both Booleans holds of any.
abbrev for_both : (Bool → Bool) → Bool
for_both p = p true && p false

for_any : (p : Bool → Bool) → for_both p ≡ true → (b : Bool) → p b ≡ true
for_any p h true = (both (p true) _ h).0
for_any p h false = (both (p true) _ h).1

abbrev flags : Bool → Bool → Bool → Bool → Bool → Flags
flags a b c d e = record { unary_tests = a; between = b; type_name = c; till_in = d; after_dot = e }

abbrev is_back : Flags → Bool
is_back f = same_flags (bit_flags (flag_bits f)) f

pub bits_back : (f : Flags) → bit_flags (flag_bits f) ≡ f
bits_back f = same_flags_lem _ _
    (for_any (λ e. is_back (flags f.unary_tests f.between f.type_name f.till_in e))
    (for_any (λ d. for_both (λ e. is_back (flags f.unary_tests f.between f.type_name d e)))
    (for_any (λ c. for_both (λ d. for_both (λ e. is_back (flags f.unary_tests f.between c d e))))
    (for_any (λ b. for_both (λ c. for_both (λ d. for_both (λ e. is_back (flags f.unary_tests b c d e)))))
    (for_any (λ a. for_both (λ b. for_both (λ c. for_both (λ d. for_both (λ e. is_back (flags a b c d e))))))
    refl f.unary_tests) f.between) f.type_name) f.till_in) f.after_dot)

-- An item's row, over a store that has its value at the row's start.
item_back : (store : List ℕ) (start : ℕ) (i : Item) → take (length i.value) (drop start store) ≡ i.value → item_of store (row_of start i) ≡ i
item_back store start i v = rw (bit_back i.is_refusal, bits_back i.flags, v)

module _ (behind : List ℕ) where
  items_back : (before : List ℕ) (is : List Item) → map (item_of (before ++ (store_of is ++ behind))) (rows_from (length before) is) ≡ is
  items_back before [] = refl
  items_back before (i ∷ is) =
      ap (λ j. j ∷ map (item_of (before ++ (i.value ++ store_of is ++ behind))) (rows_from (length before + length i.value) is)) (item_back _ (length before) i here)
      ∙ ap (λ js. i ∷ js) (next (items_back (before ++ i.value) is))
    where
      here : take (length i.value) (drop (length before) (before ++ (i.value ++ store_of is ++ behind))) ≡ i.value
      here = rw (drop-append_seam, append_assoc, take-append_seam)

      next : map (item_of (before ++ i.value ++ (store_of is ++ behind))) (rows_from (length (before ++ i.value)) is) ≡ is
          → map (item_of (before ++ (i.value ++ store_of is ++ behind))) (rows_from (length before + length i.value) is) ≡ is
      next h = rw (append_assoc i.value, ← append_assoc before, ← length-append) h

  pub unpacked : (is : List Item) → unpack (record { rows = rows_from 0 is; store = store_of is ++ behind }) ≡ is
  unpacked is = items_back [] is

pub row_count_lem : (at : ℕ) (is : List Item) → length (rows_from at is) ≡ length is
row_count_lem at [] = refl
row_count_lem at (i ∷ is) = ap suc (row_count_lem (at + length i.value) is)

-- The other way round: a row of an accepted record is written again as it was read.
bit_again : (n : ℕ) → n ≤ 1 → bit (eqb n 1) ≡ n
bit_again n h = eqb-true _ _ (below (λ n. eqb (bit (eqb n 1)) n) 2 refl n (omega arith))

pub bits_again : (n : ℕ) → n ≤ 31 → flag_bits (bit_flags n) ≡ n
bits_again n h = eqb-true _ _ (below (λ n. eqb (flag_bits (bit_flags n)) n) 32 refl n (omega arith))

-- A row of eleven is its eleven places.
module _ (r : List ℕ) (eleven : length r ≡ 11) where
  cell : (j : ℕ) {xs : List ℕ} → j < 11 → drop (suc j) r ≡ xs → drop j r ≡ get_or r j 0 ∷ xs
  cell j h e = drop-cons r j 0 (omega arith) ∙ ap (λ xs. get_or r j 0 ∷ xs) e

  row-places : r ≡ get_or r 0 0 ∷ get_or r 1 0 ∷ get_or r 2 0 ∷ get_or r 3 0 ∷ get_or r 4 0 ∷ get_or r 5 0 ∷ get_or r 6 0 ∷ get_or r 7 0 ∷ get_or r 8 0 ∷ get_or r 9 0 ∷ get_or r 10 0 ∷ []
  row-places = cell 0 (omega arith) (cell 1 (omega arith) (cell 2 (omega arith) (cell 3 (omega arith) (cell 4 (omega arith) (cell 5 (omega arith) (cell 6 (omega arith)
      (cell 7 (omega arith) (cell 8 (omega arith) (cell 9 (omega arith) (cell 10 (omega arith) (drop_of_length-le r {i = 11} (omega arith))))))))))))

  pub row_again : (store : List ℕ) → is_row r ≡ true → get_or r start_at 0 + get_or r length_at 0 ≤ length store → row_of (get_or r start_at 0) (item_of store r) ≡ r
  row_again store h l =
      let small = both (leb (get_or r refused_at 0) 1) (leb (get_or r flags_at 0) 31) (both (leb (get_or r refused_at 0) 1 && leb (get_or r flags_at 0) 31) _ h).0 in
      let size : length (take (get_or r length_at 0) (drop (get_or r start_at 0) store)) ≡ get_or r length_at 0 = simp (length-take, length-drop) (omega arith) in
      rw (bit_again (get_or r refused_at 0) (leb-true _ _ small.0), bits_again (get_or r flags_at 0) (leb-true _ _ small.1), size) (sym row-places)
