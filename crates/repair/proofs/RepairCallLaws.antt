-- The call `repair` answers as defined: refused, or with the repaired record.
use mathlib.Core.Path.{◌≡◌, ap, ◌∙◌}
use mathlib.Core.Bool.{true, false}
use mathlib.Core.List.{List}
use Prim.Native.Nat.{ℕ}
use lib.ListN.{length}
use Rattle.std.specs.Prelude.{Ok, Err}
use Rattle.text.specs.declared.refusal.Refusal.{Refusal}
use Rattle.text.specs.declared.refusal.Refusal.TheVariants.{BrokenRequest}
use Rattle.reading.specs.Slices.{zeros}
use Rattle.text.specs.Refusals.{broken_request}
use Rattle.text.specs.RefusalNumber.{number_of}
use Rattle.scope.specs.Keys.{is_name}
use Rattle.scope.specs.Lent.{Lent, scope_of}
use Rattle.lexer.specs.Token.{read_token}
use Rattle.runs.specs.declared.call.Counts.{Counts}
use Rattle.runs.specs.Item.{Item}
use Rattle.runs.specs.Repair.{repair_items}
use Rattle.runs.specs.Record.{Record, unpack, repair}
use Rattle.runs.specs.Request.{Request, new_length, is_broken_request}
use Rattle.repair.specs.Asking.{Askable}
use Rattle.runs.specs.Calls.{Room, made, refused, repair_call}
use Rattle.runs.specs.Ran.{refusal}
use Rattle.runs.specs.Copied.{Behind}
use Rattle.repair.specs.Repaired.{Repaired}
use Rattle.runs.proofs.RefusalLaws.{numbers_pos}
use Rattle.runs.proofs.CallLaws.{passes, checked_refused, checked_made}
use Rattle.runs.proofs.RunCallLaws.{zeros_long, refused_so, made_so}

module _ (l : Lent) (q : Request) (rows : List (List ℕ)) (store scratch : List ℕ) {clean : List ℕ} (is_clean : clean ≡ zeros (length scratch)) where
  abbrev room : Room
  room = record { rows = rows; store = store; scratch = scratch }

  -- The repaired items, and their record.
  abbrev repaired : List Item
  repaired = repair_items (read_token (is_name (scope_of l))) q.edit (unpack q.old) q.part

  abbrev new : Record
  new = repair (read_token (is_name (scope_of l))) q.edit q.old q.part

  pub repair_broken : is_broken_request q ≡ true → Repaired l q room (Err BrokenRequest) (record { rows = rows; store = store; scratch = clean })
  repair_broken h =
      let e : repair_call l room q ≡ refused broken_request = rw h in
      let w = refused_so rows store scratch is_clean e in
      record { answer = w.0; left = w.1 }

  module _ (whole : is_broken_request q ≡ false) where
    same_scratch : length clean ≡ length scratch
    same_scratch = ap length is_clean ∙ zeros_long (length scratch)

    -- The checks were made of the cleared scratch.
    checked : {m : ℕ} → m ≡ refusal l (new_length q) (length rows) (length store) (length clean) → m ≡ refusal l (new_length q) (length rows) (length store) (length scratch)
    checked h = rw same_scratch at h

    pub repair_refused : (e : Refusal) → number_of e ≡ refusal l (new_length q) (length rows) (length store) (length clean) → Repaired l q room (Err e) (record { rows = rows; store = store; scratch = clean })
    repair_refused e h =
        let c : repair_call l room q ≡ refused (number_of e) = rw whole (checked_refused l room (new_length q) new (checked h) (numbers_pos e)) in
        let w = refused_so rows store scratch is_clean c in
        record { answer = w.0; left = w.1 }

    module _ (checks : 0 ≡ refusal l (new_length q) (length rows) (length store) (length clean)) where
      pub repair_askable : Askable q.old.rows q.old.store q.edit q.part (length rows) (length store) (length clean)
      repair_askable =
          let passed = passes l (new_length q) (length rows) (length store) (length clean) checks in
          record { size = q.old_length; whole = whole; limit = passed.within; rows_long = passed.rows_long; store_long = passed.store_long; scratch_long = passed.scratch_long }

      pub repair_made : {c : Counts} {rows' : List (List ℕ)} {store' left : List ℕ} → Behind 0 0 rows store repaired c.items c.cells rows' store' → left ≡ clean
          → Repaired l q room (Ok c) (record { rows = rows'; store = store'; scratch = left })
      repair_made b same =
          let e : repair_call l room q ≡ made new = rw whole (checked_made l room (new_length q) new (passes l (new_length q) (length rows) (length store) (length scratch) (checked checks))) in
          let w = made_so rows store scratch is_clean repaired e b same in
          record { answer = w.0; left = w.1 }
