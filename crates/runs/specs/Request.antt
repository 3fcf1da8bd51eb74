-- 01's list for 13: what makes a repair request broken.
use Rattle.std.specs.Prelude.{Bool, true, false, cond, ◌&&◌, ◌||◌, not, List, [], ◌∷◌, ℕ, ◌+◌, leb, ltb, eqb, length, get_or}
use Rattle.text.specs.Limits.{max_chars}
use Rattle.lexer.specs.Read.{is_last}
use Rattle.lexer.specs.TokenType
use Rattle.runs.specs.Edit.{Edit, moved}
use Rattle.runs.specs.Repair.{last_kept}
use Rattle.runs.specs.Record.{Record, refused_at, number_at, position_at, flags_at, reach_at, start_at, length_at, before_at, after_at, exponent_at, unpack}

-- Old length, old record with its value store, the edit, and the new text from the last kept position on.
pub record Request : Type 0 where
  pub old_length : ℕ
  pub old : Record
  pub edit : Edit
  pub part : List ℕ

abbrev pub is_number : List ℕ → Bool
is_number r = not (eqb (get_or r refused_at 0) 1) && eqb TokenType.Numeric (get_or r number_at 0)

abbrev pub adds_up : List ℕ → Bool
adds_up r = eqb (get_or r before_at 0 + get_or r after_at 0 + get_or r exponent_at 0) (get_or r length_at 0)

-- The row is an item's: it is refused or not, with five flags. 01 asks of its other numbers only that a number's lengths add up.
abbrev pub is_row : List ℕ → Bool
is_row r = leb (get_or r refused_at 0) 1 && leb (get_or r flags_at 0) 31 && (not (is_number r) || adds_up r)

-- A row behind position p, over a text of n characters; the last value ended at `at` of a store of m cells.
abbrev pub row_fits : ℕ → ℕ → ℕ → ℕ → List ℕ → Bool
row_fits n m at p r =
    is_row r && leb (get_or r position_at 0) n && leb (get_or r position_at 0) (get_or r reach_at 0) && leb (get_or r reach_at 0) (n + 12)
    && eqb (get_or r start_at 0) at && leb (at + get_or r length_at 0) m && leb (p + get_or r length_at 0) (get_or r position_at 0)

abbrev pub is_end : List (List ℕ) → Bool
is_end [] = true
is_end (r ∷ rs) = false

-- Behind an item that ends a run nothing follows; any other stands behind p, and there is one more.
unfoldable pub rows_fit : ℕ → ℕ → ℕ → ℕ → List (List ℕ) → Bool
rows_fit n m at p [] = false
rows_fit n m at p (r ∷ rs) =
    row_fits n m at p r
    && cond (is_last (eqb (get_or r refused_at 0) 1) (get_or r number_at 0)) (is_end rs)
    (ltb p (get_or r position_at 0) && rows_fit n m (at + get_or r length_at 0) (get_or r position_at 0) rs)

-- The first item has position and reach 0.
abbrev pub first_fits : ℕ → ℕ → List (List ℕ) → Bool
first_fits n m [] = false
first_fits n m (r ∷ rs) =
    row_fits n m 0 0 r && eqb (get_or r position_at 0) 0 && eqb (get_or r reach_at 0) 0
    && cond (is_last (eqb (get_or r refused_at 0) 1) (get_or r number_at 0)) (is_end rs) (rows_fit n m 0 0 rs)

abbrev pub record_fits : ℕ → Record → Bool
record_fits n r = leb (length r.rows) (n + 2) && first_fits n (length r.store) r.rows

abbrev pub new_length : Request → ℕ
new_length q = moved q.edit q.old_length

-- The position that the text part begins at.
abbrev pub part_start : Request → ℕ
part_start q = last_kept q.edit (unpack q.old) 0

abbrev pub is_broken_request : Request → Bool
is_broken_request q =
    ltb q.edit.to q.edit.from || ltb q.old_length q.edit.to || ltb max_chars q.old_length
    || not (record_fits q.old_length q.old) || not (eqb (part_start q + length q.part) (new_length q))
