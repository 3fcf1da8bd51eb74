-- What the code of the calls answers and leaves, in the terms of the definitions.
use Rattle.std.specs.Prelude.{◌≡◌, false, cond, ◌&&◌, List, [], ◌++◌, ℕ, ◌+◌, ◌-◌, ◌*◌, ◌≤◌, leb, ltb, length, Result, Ok, Err}
use Rattle.text.specs.Limits.{max_chars}
use Rattle.text.specs.Refusals.{too_long, short_slice, broken_scope}
use Rattle.text.specs.RefusalNumber.{number_of}
use Rattle.text.specs.declared.refusal.Refusal.{Refusal}
use Rattle.scope.specs.Lent.{Lent, is_broken}
use Rattle.lexer.specs.Flags.{Flags}
use Rattle.lexer.specs.FlagsOf.{flags_of}
use Rattle.runs.specs.declared.call.Counts.{Counts}
use Rattle.runs.specs.declared.run.Progress.{Progress}
use Rattle.runs.specs.Item.{Item, ends_run}
use Rattle.runs.specs.Run.{Reader, item_at, items, run_items}
use Rattle.runs.specs.Copied.{Copied, Behind}
use Rattle.runs.specs.Calls.{Room, Answer, made, refused, room_after, run_call}

-- What the code answers, with 01's number of a refusal.
abbrev pub numbered : {A : Type 0} → Result A Refusal → Result A ℕ
numbered (Ok x) = Ok x
numbered (Err e) = Err (number_of e)

-- A record as the code answers it: the number of its rows and of its store's cells.
abbrev pub answer_of : Answer → Result Counts ℕ
answer_of (made r) = Ok (record { items = length r.rows; cells = length r.store })
answer_of (refused n) = Err n

-- The call `run` answers r and leaves the slices as they are then.
pub record Ran (l : Lent) (k : ℕ) (f : Flags) (t : List ℕ) (room : Room) (r : Result Counts Refusal) (room' : Room) : Type 0 where
  pub answer : numbered r ≡ answer_of (run_call l room k f t)
  pub left : room' ≡ room_after (run_call l room k f t) room

-- The number of a refusal; 0 where there is none.
abbrev pub number : {A : Type 0} → Result A Refusal → ℕ
number (Ok x) = 0
number (Err e) = number_of e

-- The refusal of a text of n characters where so many rows, store cells and scratch cells are lent; 0 is none.
abbrev pub refusal : Lent → ℕ → ℕ → ℕ → ℕ → ℕ
refusal l n rows store scratch =
    cond (ltb max_chars n) too_long
    (cond (is_broken l) broken_scope
    (cond (leb (n + 2) rows && leb n store && leb (2 * n) scratch) 0 short_slice))

-- The next item of a run is read: its row is written behind the last one, its value behind the last value.
pub record Next (tok : Reader) (t : List ℕ) (at : Progress) (rows : List (List ℕ)) (store : List ℕ) (at' : Progress) (rows' : List (List ℕ)) (store' : List ℕ) : Type 0 where
  pub item : Item
  pub one : item ≡ item_at tok t at.position (flags_of at.flags)
  pub position : at'.position ≡ item.position
  pub flags : flags_of at'.flags ≡ item.flags
  pub ended : at'.ended ≡ ends_run item
  pub written : Copied item at.counts.items at.counts.cells rows store at'.counts.items at'.counts.cells rows' store'
  pub short : length item.value + at.position ≤ item.position
  pub within : item.position ≤ length t
  pub far : item.reach ≤ length t + 12
  pub onward : ends_run item ≡ false → at.position + 1 ≤ item.position

-- A run stands at `at`: its items so far are packed in the fronts of the slices, and those from there on are still to come.
pub record Stands (tok : Reader) (k : ℕ) (f : Flags) (t : List ℕ) (rows : List (List ℕ)) (store : List ℕ) (at : Progress) (rows' : List (List ℕ)) (store' : List ℕ) : Type 0 where
  pub sofar : List Item
  pub all : sofar ++ cond at.ended [] (items tok (length t + 2 - at.counts.items) t at.position (flags_of at.flags)) ≡ run_items tok k f t
  pub behind : Behind 0 0 rows store sofar at.counts.items at.counts.cells rows' store'
  pub within : at.position ≤ length t
  pub short : at.counts.cells ≤ at.position
  pub few : at.ended ≡ false → at.counts.items ≤ at.position + 1
