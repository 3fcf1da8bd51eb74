-- Demand 3 about the exported pair: `feel_run` and `feel_repair` are all that the two C functions return and leave.
-- An accepted run left its record in the fronts of its room, so what a host hands on is the request that demand 3 is about.
use mathlib.Core.Path.{◌≡◌, refl, sym, ap, ◌∙◌, subst}
use mathlib.Core.Bool.{Bool, true, false, cond, ◌&&◌}
use mathlib.Core.List.{List, [], ◌∷◌}
use Prim.Native.Nat.{ℕ, ◌≤◌}
use native.Mathlib.Omega.{arith}
use lib.Dec.{leb, ltb}
use lib.ListN.{length}
use borrow.Author.Tests.{ltb-false}
use Rattle.reading.proofs.Test.{both}
use Rattle.text.specs.Limits.{max_chars}
use Rattle.text.specs.Refusals.{too_long, short_slice, broken_scope}
use Rattle.scope.specs.Lent.{Lent, is_broken, scope_of}
use Rattle.lexer.specs.Flags.{Flags}
use Rattle.runs.specs.Edit.{Change, changed}
use Rattle.runs.specs.Record.{Record, bit_flags}
use Rattle.runs.specs.Calls.{Room, made, refused, has_room, room_after, run_record, checked, run_call, repair_call}
use Rattle.runs.specs.Ran.{answer_of, Ran}
use Rattle.std.specs.Prelude.{Ok}
use Rattle.runs.proofs.Demand3.{demand_3}
use Rattle.repair.proofs.BothCalls.{behind, same-request}
use Rattle.feel_lexer.specs.Numbers.{lent_of, all_flags}
use Rattle.feel_lexer.specs.Exported.{is_answer, Recorded, recorded, not_recorded, feel_run, feel_repair}
use Rattle.feel_lexer.specs.HandedOn.{handed_on, Step, after_all, Accepted, run_of_last}

and_true : (b : Bool) → b && true ≡ b
and_true true = refl
and_true false = refl

-- A call that returns 0 had its forms right, and made a record of a text within the limit.
was_made : (lent : Lent) (room : Room) (n : ℕ) (r : Record) → (recorded (checked lent room n r) room).number ≡ 0 → (n ≤ max_chars) × (checked lent room n r ≡ made r)
was_made lent room n r = go (ltb max_chars n) refl (is_broken lent) (has_room n room)
  where
    go : (x : Bool) → ltb max_chars n ≡ x → (y z : Bool) → (recorded (cond x (refused too_long) (cond y (refused broken_scope) (cond z (made r) (refused short_slice)))) room).number ≡ 0
        → (n ≤ max_chars) × (cond x (refused too_long) (cond y (refused broken_scope) (cond z (made r) (refused short_slice))) ≡ made r)
    go true e y z p = absurd (omega (arith, p))
    go false e true z p = absurd (omega (arith, p))
    go false e false false p = absurd (omega (arith, p))
    go false e false true p = (ltb-false max_chars n e, refl)

was_formed : (b : Bool) (x : Recorded) (room : Room) (ns : List ℕ) → (cond b x (not_recorded room ns)).number ≡ 0 → (b ≡ true) × (x.number ≡ 0)
was_formed true x room ns p = (refl, p)
was_formed false x room ns p = absurd (omega (arith, p))

module _ (start flags : ℕ) (scope : List ℕ) (slots names : List (List ℕ)) where
  abbrev lent : Lent
  lent = lent_of scope slots names

  abbrev opening : Flags
  opening = bit_flags flags

  abbrev run : List ℕ → Room → List ℕ → Recorded
  run t room ns = feel_run t start flags scope slots names room ns

  -- Handed what an accepted run left, and any edit within its text, repair returns and leaves what a run of the new text does, in any room and with any answer: its refusals 1, 10 and 9 included.
  pub exported_pair : (old : List ℕ) (first : Room) (ns : List ℕ) → (run old first ns).number ≡ 0 → (c : Change) → c.from ≤ c.to → c.to ≤ length old → (room : Room) (ns' : List ℕ)
      → feel_repair (handed_on old (run old first ns) c) scope slots names room ns' ≡ run (changed old c) room ns'
  exported_pair old first ns zero c ordered within room ns' =
      let r = run_record (scope_of lent) start opening old in
      let formed = was_formed (is_answer ns && leb flags all_flags) (recorded (run_call lent first start opening old) first) first ns zero in
      let was = was_made lent first (length old) r formed.1 in
      let left : run old first ns ≡ recorded (made r) first = ap (λ b. cond b (recorded (run_call lent first start opening old) first) (not_recorded first ns)) formed.0 ∙ ap (λ a. recorded a first) was.1 in
      let ran : Ran lent start opening old first (Ok (record { items = length r.rows; cells = length r.store })) (room_after (made r) first) = record { answer = ap answer_of (sym was.1); left = ap (λ a. room_after a first) (sym was.1) } in
      let request = ap (λ x. handed_on old x c) left ∙ same-request lent start opening old first ran c.from c.to c.new in
      let call = ap (repair_call lent room) request ∙ demand_3 lent room start opening old c.from c.to c.new (behind lent start opening old first ran c.from c.to c.new) ordered within was.0 in
      ap (λ a. cond (is_answer ns') (recorded a room) (not_recorded room ns')) call
      ∙ ap (λ b. cond b (recorded (run_call lent room start opening (changed old c)) room) (not_recorded room ns'))
      (sym (ap (λ b. is_answer ns' && b) (both (is_answer ns) (leb flags all_flags) formed.0).1 ∙ and_true (is_answer ns')))

  -- After each of some edits, each repair handed what the call before it left: what the last one leaves is what a run of the last text leaves.
  pub exported_chain : (t : List ℕ) (room : Room) (ns : List ℕ) (ss : List Step) → Accepted scope slots names t (run t room ns) ss → after_all scope slots names t (run t room ns) ss ≡ run_of_last scope slots names start flags t room ns ss
  exported_chain t room ns [] h = refl
  exported_chain t room ns (s ∷ ss) h =
      let t' = changed t s.change in
      let one = exported_pair t room ns h.0 s.change h.1 h.2 s.room s.answer in
      ap (λ x. after_all scope slots names t' x ss) one ∙ exported_chain t' s.room s.answer ss (subst (λ x. Accepted scope slots names t' x ss) one h.3)
