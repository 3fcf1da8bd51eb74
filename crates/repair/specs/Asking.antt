-- A repair request as it is lent, and how many items an edit leaves as they were.
use Rattle.std.specs.Prelude.{false, cond, List, [], ◌∷◌, ℕ, suc, ◌+◌, ◌*◌, ◌<◌, ◌≤◌, ◌≡◌, length}
use Rattle.runs.specs.Item.{Item}
use Rattle.text.specs.Limits.{max_chars}
use Rattle.runs.specs.Run.{Reader}
use Rattle.runs.specs.Edit.{Edit, moved}
use Rattle.runs.specs.Repair.{is_kept, last_kept, followed, fresh_items}
use Rattle.runs.specs.Record.{item_of, unpack}
use Rattle.runs.specs.Request.{Request, is_broken_request}
use Rattle.repair.specs.declared.request.Request.{Request as Coded}

-- The request of an old length, rows and store, an edit and a text part.
abbrev pub asked : ℕ → List (List ℕ) → List ℕ → ℕ → ℕ → ℕ → List ℕ → Request
asked n rows store from to size part = record {
  old_length = n;
  old = record { rows = rows; store = store };
  edit = record { from = from; to = to; size = size };
  part = part;
}

abbrev pub request_of : Coded → Request
request_of q = asked q.old_length q.old.rows.now q.old.store.now q.from q.to q.size q.part.now

-- The number of items before the first that is not kept.
unfoldable pub kept_count : Edit → List Item → ℕ
kept_count e [] = 0
kept_count e (i ∷ is) = cond (is_kept e i) (suc (kept_count e is)) 0

-- So many rows are kept by an edit from `from` on, whatever the store.
pub record KeptRows (from : ℕ) (rows : List (List ℕ)) (k : ℕ) : Type 0 where
  pub within : k ≤ length rows
  pub count : (e : Edit) (store : List ℕ) → e.from ≡ from → k ≡ kept_count e (unpack (record { rows = rows; store = store }))

-- The position that the text part of such an edit begins at; a row's numbers are below 2^32.
pub record PartStart (from : ℕ) (rows : List (List ℕ)) (p : ℕ) : Type 0 where
  pub small : p < 4_294_967_296
  pub last : (e : Edit) (store : List ℕ) → e.from ≡ from → p ≡ last_kept e (unpack (record { rows = rows; store = store })) 0

-- What is read afresh behind a row, to a match or the end.
abbrev pub fresh_behind : Reader → Edit → List ℕ → List ℕ → List Item → List ℕ → List Item
fresh_behind tok e store part old r =
    let i = item_of store r in
    followed e old (fresh_items tok part i.position i.flags) i.position i.flags

-- An accepted request, with so many rows, store cells and scratch cells lent for the new text.
pub record Askable (rows : List (List ℕ)) (store : List ℕ) (e : Edit) (part : List ℕ) (n m k : ℕ) : Type 0 where
  pub size : ℕ
  pub whole : is_broken_request (record { old_length = size; old = record { rows = rows; store = store }; edit = e; part = part }) ≡ false
  pub limit : moved e size ≤ max_chars
  pub rows_long : moved e size + 2 ≤ n
  pub store_long : moved e size ≤ m
  pub scratch_long : 2 * moved e size ≤ k
