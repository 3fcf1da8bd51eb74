-- What the code answers of a record is told as the definitions tell it.
use Rattle.std.specs.Prelude.{◌≡◌, refl, length, ℕ, List, Bool, true, false, cond, ◌&&◌, Result, Ok, Err}
use Rattle.std.proofs.Common.{sym, ◌∙◌}
use Rattle.text.specs.RefusalNumber.{number_of}
use Rattle.text.specs.declared.refusal.Refusal.{Refusal}
use Rattle.text.specs.declared.refusal.Refusal.TheVariants.{ShortSlice}
use Rattle.runs.specs.declared.call.Counts.{Counts}
use Rattle.runs.specs.Calls as runs
use Rattle.runs.specs.Calls.{Room, room_after}
use Rattle.runs.specs.Ran.{numbered, answer_of}
use Rattle.feel_lexer.specs.Exported.{is_answer, Checked, recorded, made_number, made_answer}

pub same_recorded : (r : Result Counts Refusal) (a : runs.Answer) → numbered r ≡ answer_of a → (room : Room) → recorded a room ≡ record { number = made_number r; room = room_after a room; answer = made_answer r }
same_recorded (Ok c) (runs.made r) e room = let k : c ≡ record { items = length r.rows; cells = length r.store } = cc in rw k
same_recorded (Ok c) (runs.refused n) e room = absurd (cc)
same_recorded (Err x) (runs.made r) e room = absurd (cc)
same_recorded (Err x) (runs.refused n) e room = let k : number_of x ≡ n = cc in rw k

-- The same of a room that is left under another name.
pub told_as : (r : Result Counts Refusal) (a : runs.Answer) → numbered r ≡ answer_of a → (room : Room) {left room' : Room} → left ≡ room_after a room → left ≡ room' → recorded a room ≡ record { number = made_number r; room = room'; answer = made_answer r }
told_as r a e room g f = rw (← f, g) (same_recorded r a e room)

pub checked_ok : {more : Bool} {ns : List ℕ} {r : Result (Unit {0}) Refusal} {ns' : List ℕ} → Checked more ns r ns' → {x : Unit {0}} → r ≡ Ok x → is_answer ns && more ≡ true
checked_ok {more} {ns} k e = go (is_answer ns && more) (sym e ∙ k.outcome)
  where
    go : (b : Bool) {x : Unit {0}} → Ok x ≡ cond b (Ok tt) (Err ShortSlice) → b ≡ true
    go true e = refl
    go false e = absurd (cc)
