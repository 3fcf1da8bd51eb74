-- Items written behind those that are written already, and old rows that can be written again.
use Rattle.std.specs.Prelude.{◌≡◌, true, List, [], ◌++◌, map, ℕ, ◌+◌, ◌≤◌, ◌<◌, length, get_or, set, take, drop}
use Rattle.reading.specs.Slices.{front}
use Rattle.text.specs.Limits.{max_chars}
use Rattle.runs.specs.declared.edit.Edit.{Edit as Coded}
use Rattle.runs.specs.Item.{Item}
use Rattle.runs.specs.Edit.{Edit, moved_item}
use Rattle.runs.specs.Record.{position_at, reach_at, start_at, length_at, row_of, rows_from, store_of, item_of}
use Rattle.runs.specs.Request.{is_row}

abbrev pub edit_of : Coded → Edit
edit_of e = record { from = e.from; to = e.to; size = e.size }

-- A row with another position, reach and value start.
abbrev pub moved_row : List ℕ → ℕ → ℕ → ℕ → List ℕ
moved_row r p q s = set (set (set r position_at p) reach_at q) start_at s

-- The items of some rows, moved.
abbrev pub moved_items : Edit → List (List ℕ) → List ℕ → List Item
moved_items e rows store = map (moved_item e) (map (item_of store) rows)

-- v from the place n of s on.
abbrev pub lay : {A : Type 0} → ℕ → List A → List A → List A
lay n v s = take n s ++ front v (drop n s)

-- A row that an edit can move, its value within a store of m cells.
pub record Movable (e : Edit) (m : ℕ) (r : List ℕ) : Type 0 where
  pub row : is_row r ≡ true
  pub behind : e.to ≤ get_or r position_at 0
  pub looked : get_or r position_at 0 ≤ get_or r reach_at 0
  pub near : get_or r reach_at 0 ≤ max_chars + 12
  pub in_store : get_or r start_at 0 + get_or r length_at 0 ≤ m

-- All rows are such rows.
pub record Copyable (e : Edit) (rows : List (List ℕ)) (store : List ℕ) : Type 0 where
  pub each : (i : ℕ) → i < length rows → Movable e (length store) (get_or rows i [])

-- One item is written behind n others and c value cells.
pub record Copied (i : Item) (n c : ℕ) (rows : List (List ℕ)) (store : List ℕ) (n' c' : ℕ) (rows' : List (List ℕ)) (store' : List ℕ) : Type 0 where
  pub count : n' ≡ n + 1
  pub cells : c' ≡ c + length i.value
  pub row : rows' ≡ set rows n (row_of c i)
  pub value : store' ≡ lay c i.value store

-- Items are written behind n others and c value cells.
pub record Behind (n c : ℕ) (rows : List (List ℕ)) (store : List ℕ) (is : List Item) (n' c' : ℕ) (rows' : List (List ℕ)) (store' : List ℕ) : Type 0 where
  pub count : n' ≡ n + length is
  pub cells : c' ≡ c + length (store_of is)
  pub laid : rows' ≡ lay n (rows_from c is) rows
  pub stored : store' ≡ lay c (store_of is) store
  pub room : n' ≤ length rows
  pub space : c' ≤ length store
  pub as_many : length rows' ≡ length rows
  pub as_long : length store' ≡ length store
