-- The call `run` answers as defined: refused, or with the record of the run.
use mathlib.Core.Path.{◌≡◌, refl, ap, ◌∙◌}
use mathlib.Core.List.{List, ◌∷◌}
use Prim.Native.Nat.{ℕ, zero, suc}
use native.Mathlib.Omega.{arith}
use lib.ListN.{length, replicate}
use Rattle.std.specs.Prelude.{Result, Ok, Err}
use Rattle.text.specs.declared.refusal.Refusal.{Refusal}
use Rattle.text.specs.RefusalNumber.{number_of}
use Rattle.reading.specs.Slices.{zeros}
use Rattle.scope.specs.Keys.{is_name}
use Rattle.scope.specs.Lent.{Lent, scope_of}
use Rattle.lexer.specs.Flags.{Flags}
use Rattle.lexer.specs.Fit.{Clear}
use Rattle.lexer.specs.Token.{read_token}
use Rattle.runs.specs.declared.call.Counts.{Counts}
use Rattle.runs.specs.Record.{rows_from, store_of, pack}
use Rattle.runs.specs.Item.{Item}
use Rattle.runs.specs.Run.{run_items}
use Rattle.runs.specs.Copied.{Behind}
use Rattle.runs.specs.Calls.{Room, Answer, made, refused, room_after, run_record}
use Rattle.runs.specs.Ran.{answer_of, Ran, refusal}
use Rattle.runs.proofs.RecordLaws.{row_count_lem}
use Rattle.runs.proofs.CallLaws.{passes, checked_refused, checked_made}
use Rattle.runs.proofs.RefusalLaws.{numbers_pos}

pub zeros_long : (n : ℕ) → length (zeros n) ≡ n
zeros_long zero = refl
zeros_long (suc n) = ap suc (zeros_long n)

pub zeros_are : (n : ℕ) → replicate n 0 ≡ zeros n
zeros_are zero = refl
zeros_are (suc n) = ap (λ s. 0 ∷ s) (zeros_are n)

pub clear-zeros : (scratch : List ℕ) {clean : List ℕ} → clean ≡ zeros (length scratch) → Clear clean
clear-zeros scratch e = let n : length (zeros (length scratch)) ≡ length scratch = zeros_long (length scratch) in record { all = rw (e, n) }

abbrev pub made_of : Counts → Result Counts ℕ
made_of c = Ok c

abbrev pub refused_by : ℕ → Result Counts ℕ
refused_by m = Err m

-- What a call leaves, refused or made, where scratch was cleared.
module _ (rows : List (List ℕ)) (store scratch : List ℕ) {clean : List ℕ} (is_clean : clean ≡ zeros (length scratch)) where
  abbrev lent_room : Room
  lent_room = record { rows = rows; store = store; scratch = scratch }

  pub refused_so : {a : Answer} {m : ℕ} → a ≡ refused m → (refused_by m ≡ answer_of a) × (record { rows = rows; store = store; scratch = clean } ≡ room_after a lent_room)
  refused_so e = (rw e, rw (e, is_clean))

  pub made_so : {a : Answer} (is : List Item) → a ≡ made (pack is) → {c : Counts} {rows' : List (List ℕ)} {store' left : List ℕ} → Behind 0 0 rows store is c.items c.cells rows' store' → left ≡ clean
      → (made_of c ≡ answer_of a) × (record { rows = rows'; store = store'; scratch = left } ≡ room_after a lent_room)
  made_so is e {c} b same =
      let x : c.items ≡ length (rows_from 0 is) = omega (arith, b.count, row_count_lem 0 is) in
      let y : c.cells ≡ length (store_of is) = omega (arith, b.cells) in
      (rw e (rw (← x, ← y)), rw (e, b.laid, b.stored, same, is_clean))

module _ (l : Lent) (k : ℕ) (f : Flags) (t : List ℕ) (rows : List (List ℕ)) (store scratch : List ℕ) {clean : List ℕ} (is_clean : clean ≡ zeros (length scratch)) where
  abbrev room : Room
  room = record { rows = rows; store = store; scratch = scratch }

  -- The checks were made of the cleared scratch.
  checked : {m : ℕ} → m ≡ refusal l (length t) (length rows) (length store) (length clean) → m ≡ refusal l (length t) (length rows) (length store) (length scratch)
  checked h = let e : length clean ≡ length scratch = ap length is_clean ∙ zeros_long (length scratch) in rw e at h

  pub run_refused : (e : Refusal) → number_of e ≡ refusal l (length t) (length rows) (length store) (length clean) → Ran l k f t room (Err e) (record { rows = rows; store = store; scratch = clean })
  run_refused e h =
      let w = refused_so rows store scratch is_clean (checked_refused l room (length t) (run_record (scope_of l) k f t) (checked h) (numbers_pos e)) in
      record { answer = w.0; left = w.1 }

  pub run_made : 0 ≡ refusal l (length t) (length rows) (length store) (length clean) → {c : Counts} {rows' : List (List ℕ)} {store' : List ℕ}
      → Behind 0 0 rows store (run_items (read_token (is_name (scope_of l))) k f t) c.items c.cells rows' store' → {left : List ℕ} → left ≡ clean
      → Ran l k f t room (Ok c) (record { rows = rows'; store = store'; scratch = left })
  run_made h b same =
      let e = checked_made l room (length t) (run_record (scope_of l) k f t) (passes l (length t) (length rows) (length store) (length scratch) (checked h)) in
      let w = made_so rows store scratch is_clean (run_items (read_token (is_name (scope_of l))) k f t) e b same in
      record { answer = w.0; left = w.1 }
