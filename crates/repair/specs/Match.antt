-- The search for an old item that matches a state, by one index into the old rows that moves forward only.
use Rattle.std.specs.Prelude.{◌≡◌, Bool, true, false, List, [], map, ℕ, ◌+◌, ◌≤◌, ◌<◌, length, get_or, drop, None, Some}
use Rattle.text.specs.Limits.{max_chars}
use Rattle.lexer.specs.Flags.{Flags}
use Rattle.runs.specs.Edit.{Edit, moved}
use Rattle.runs.specs.Repair.{old_rest}
use Rattle.runs.specs.Record.{item_of, position_at}
use Rattle.runs.specs.Request.{record_fits}
use Rattle.runs.specs.Copied.{moved_items}

-- The rows of an accepted record.
pub record Accepted (rows : List (List ℕ)) : Type 0 where
  pub size : ℕ
  pub store : List ℕ
  pub fits : record_fits size (record { rows = rows; store = store }) ≡ true
  pub limit : size ≤ max_chars

-- The position of the row at i.
abbrev pub place_at : List (List ℕ) → ℕ → ℕ
place_at rows i = get_or (get_or rows i []) position_at 0

-- The rows before j are passed: none matches a state at p or behind it.
pub record Passed (e : Edit) (rows : List (List ℕ)) (j p : ℕ) : Type 0 where
  pub within : j ≤ length rows
  pub same : (store : List ℕ) (q : ℕ) (f : Flags) → p ≤ q → old_rest e (map (item_of store) rows) q f ≡ old_rest e (map (item_of store) (drop j rows)) q f

-- Whether an item at the place q lies before the edit's end or is moved to a place before p.
pub record Before (e : Edit) (q p : ℕ) (b : Bool) : Type 0 where
  pub yes : b ≡ true → e.to ≤ q → moved e q < p
  pub no : b ≡ false → (e.to ≤ q) × (p ≤ moved e q)

-- The row at j, unless it is the last, is moved to p or behind it.
pub record Ahead (e : Edit) (rows : List (List ℕ)) (j p : ℕ) : Type 0 where
  pub so : j + 1 < length rows → (e.to ≤ place_at rows j) × (p ≤ moved e (place_at rows j))

-- The row at j matches the state of position p and flags f.
pub record Matching (e : Edit) (rows : List (List ℕ)) (j p : ℕ) (f : Flags) : Type 0 where
  pub more : j + 1 < length rows
  pub behind : e.to ≤ place_at rows j
  pub place : moved e (place_at rows j) ≡ p
  pub rest : (store : List ℕ) → old_rest e (map (item_of store) rows) p f ≡ Some (moved_items e (drop (j + 1) rows) store)

-- Whether it does; if not, no row does.
pub record Looked (e : Edit) (rows : List (List ℕ)) (j p : ℕ) (f : Flags) (b : Bool) : Type 0 where
  pub found : b ≡ true → Matching e rows j p f
  pub missed : b ≡ false → (store : List ℕ) → old_rest e (map (item_of store) rows) p f ≡ None
