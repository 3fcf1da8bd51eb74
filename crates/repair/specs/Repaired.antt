-- What the code of the call `repair` answers and leaves, and how its fresh items are written.
use Rattle.std.specs.Prelude.{◌≡◌, List, ◌++◌, map, ℕ, ◌+◌, ◌≤◌, ◌<◌, length, drop, Result}
use Rattle.scope.specs.Lent.{Lent}
use Rattle.lexer.specs.Flags.{Flags}
use Rattle.text.specs.declared.refusal.Refusal.{Refusal}
use Rattle.runs.specs.declared.call.Counts.{Counts}
use Rattle.runs.specs.declared.run.Progress.{Progress}
use Rattle.repair.specs.declared.repair.Matched.{Matched}
use Rattle.runs.specs.Item.{Item}
use Rattle.runs.specs.Run.{Reader}
use Rattle.runs.specs.Edit.{Edit, moved, moved_item}
use Rattle.runs.specs.Repair.{followed, fresh_items}
use Rattle.runs.specs.Record.{item_of}
use Rattle.runs.specs.Request.{Request}
use Rattle.runs.specs.Calls.{Room, room_after, repair_call}
use Rattle.runs.specs.Ran.{numbered, answer_of, Next}
use Rattle.runs.specs.Copied.{moved_items, Copied, Behind}
use Rattle.repair.specs.Match.{place_at}

-- The call `repair` answers r and leaves the slices as they are then.
pub record Repaired (l : Lent) (q : Request) (room : Room) (r : Result Counts Refusal) (room' : Room) : Type 0 where
  pub answer : numbered r ≡ answer_of (repair_call l room q)
  pub left : room' ≡ room_after (repair_call l room q) room

-- All of the part is put behind `base`.
abbrev pub put_at : ℕ → Edit
put_at base = record { from = 0; to = 0; size = base }

-- The next item of a part that begins at `base` is read and written, with its place in the whole text.
pub record Fresh (tok : Reader) (part : List ℕ) (base : ℕ) (at : Progress) (rows : List (List ℕ)) (store : List ℕ) (at' : Progress) (rows' : List (List ℕ)) (store' : List ℕ) : Type 0 where
  pub between : List (List ℕ)
  pub next : Next tok part at rows store at' between store'
  pub written : Copied (moved_item (put_at base) next.item) at.counts.items at.counts.cells rows store at'.counts.items at'.counts.cells rows' store'

-- Old rows from m.old on follow behind a match: the row before them, and bounds by its place moved.
pub record Left (e : Edit) (old : List (List ℕ)) (base n c : ℕ) (m : Matched) : Type 0 where
  pub row : ℕ
  pub next : m.old ≡ row + 1
  pub behind : e.to ≤ place_at old row
  pub few : m.counts.items + base ≤ n + moved e (place_at old row)
  pub short : m.counts.cells + base ≤ c + moved e (place_at old row)

-- Fresh items are written to the first match, or to the run's end; the old rows from m.old on follow, moved.
pub record ToMatch (tok : Reader) (e : Edit) (old : List (List ℕ)) (part : List ℕ) (base : ℕ) (f : Flags) (n c : ℕ) (rows : List (List ℕ)) (store : List ℕ) (m : Matched) (rows' : List (List ℕ)) (store' : List ℕ) : Type 0 where
  pub fresh : List Item
  pub all : (values : List ℕ) → followed e (map (item_of values) old) (fresh_items tok part base f) base f ≡ fresh ++ moved_items e (drop m.old old) values
  pub behind : Behind n c rows store fresh m.counts.items m.counts.cells rows' store'
  pub within : m.old ≤ length old
  pub short : m.counts.cells ≤ c + length part
  pub left : m.old < length old → Left e old base n c m
