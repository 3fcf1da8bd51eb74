-- What a host hands to `feel_repair`: what the call before it left, `feel_run` or `feel_repair`, with one edit of the text.
use Rattle.std.specs.Prelude.{◌≡◌, List, [], ◌∷◌, ℕ, ◌≤◌, length, get_or, take, drop}
use Rattle.runs.specs.Edit.{Change, changed, edit_of}
use Rattle.runs.specs.Repair.{last_kept}
use Rattle.runs.specs.Record.{unpack}
use Rattle.runs.specs.Request.{Request}
use Rattle.runs.specs.Calls.{Room}
use Rattle.repair.specs.Asking.{asked}
use Rattle.feel_lexer.specs.Numbers.{items_at}
use Rattle.feel_lexer.specs.Exported.{Recorded, feel_run, feel_repair}

-- The length of the old text, the rows that the answer counts, the store as it was left, the edit, and the new text from the last kept position on.
abbrev pub handed_on : List ℕ → Recorded → Change → Request
handed_on old left c =
    let rows = take (get_or left.answer items_at 0) left.room.rows in
    let store = left.room.store in
    asked (length old) rows store c.from c.to (length c.new) (drop (last_kept (edit_of c) (unpack (record { rows = rows; store = store })) 0) (changed old c))

-- One edit of many, with the room and the answer that are lent to the repair behind it.
pub record Step : Type 0 where
  pub change : Change
  pub room : Room
  pub answer : List ℕ

module _ (scope : List ℕ) (slots names : List (List ℕ)) where
  -- The text t was run or repaired to `left`; what the repair after the last edit leaves, each call handed what the one before it left.
  abbrev pub after_all : List ℕ → Recorded → List Step → Recorded
  after_all t left [] = left
  after_all t left (s ∷ ss) = after_all (changed t s.change) (feel_repair (handed_on t left s.change) scope slots names s.room s.answer) ss

  -- Each edit lies in the text that it meets, and the call before it was not refused.
  abbrev pub Accepted : List ℕ → Recorded → List Step → Type 0
  Accepted t left [] = Unit {0}
  Accepted t left (s ∷ ss) =
      (left.number ≡ 0) × (s.change.from ≤ s.change.to) × (s.change.to ≤ length t)
      × Accepted (changed t s.change) (feel_repair (handed_on t left s.change) scope slots names s.room s.answer) ss

  -- What a run of the last text leaves in the last room.
  abbrev pub run_of_last : ℕ → ℕ → List ℕ → Room → List ℕ → List Step → Recorded
  run_of_last start flags t room ns [] = feel_run t start flags scope slots names room ns
  run_of_last start flags t room ns (s ∷ ss) = run_of_last start flags (changed t s.change) s.room s.answer ss
