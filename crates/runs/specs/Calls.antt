-- The calls run and repair, with the refusals of the host and what they leave in the lent slices.
use Rattle.std.specs.Prelude.{Bool, cond, ◌&&◌, List, ℕ, ◌+◌, ◌*◌, leb, ltb, length}
use Rattle.reading.specs.Slices.{front, zeros}
use Rattle.text.specs.Limits.{max_chars}
use Rattle.text.specs.Refusals.{too_long, short_slice, broken_scope, broken_request}
use Rattle.scope.specs.Entries.{ParsingScope}
use Rattle.scope.specs.Keys.{is_name}
use Rattle.scope.specs.Lent.{Lent, is_broken, scope_of}
use Rattle.lexer.specs.Flags.{Flags}
use Rattle.lexer.specs.Token.{read_token}
use Rattle.runs.specs.Run.{run_items}
use Rattle.runs.specs.Record.{Record, pack, repair}
use Rattle.runs.specs.Request.{Request, new_length, is_broken_request}

-- The lent slices that are written.
pub record Room : Type 0 where
  pub rows : List (List ℕ)
  pub store : List ℕ
  pub scratch : List ℕ

-- 01: output as long as the (new) text, scratch twice that, a record two items longer.
abbrev pub has_room : ℕ → Room → Bool
has_room n room = leb (n + 2) (length room.rows) && leb n (length room.store) && leb (2 * n) (length room.scratch)

-- A record, or a refusal's number; 01: its place is 0, for neither call is handed a position.
pub data Answer : Type 0 where
  made : Record → Answer
  refused : ℕ → Answer

-- The slices after a call: the record's rows and the used store fill their fronts, or all is as it was; scratch is zero.
abbrev pub room_after : Answer → Room → Room
room_after (made r) room = record { rows = front r.rows room.rows; store = front r.store room.store; scratch = zeros (length room.scratch) }
room_after (refused n) room = record { rows = room.rows; store = room.store; scratch = zeros (length room.scratch) }

-- The record of a run: start type, opening flags, text.
abbrev pub run_record : ParsingScope → ℕ → Flags → List ℕ → Record
run_record scope k f t = pack (run_items (read_token (is_name scope)) k f t)

-- 1, then 10, then 9, by the length of the text.
abbrev pub checked : Lent → Room → ℕ → Record → Answer
checked lent room n r =
    cond (ltb max_chars n) (refused too_long)
    (cond (is_broken lent) (refused broken_scope)
    (cond (has_room n room) (made r) (refused short_slice)))

abbrev pub run_call : Lent → Room → ℕ → Flags → List ℕ → Answer
run_call lent room k f t = checked lent room (length t) (run_record (scope_of lent) k f t)

-- 13 first.
abbrev pub repair_call : Lent → Room → Request → Answer
repair_call lent room q =
    cond (is_broken_request q) (refused broken_request)
    (checked lent room (new_length q) (repair (read_token (is_name (scope_of lent))) q.edit q.old q.part))
