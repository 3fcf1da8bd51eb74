-- Demand 3 about the calls: what `repair` answers and leaves, handed what `run` left for the old text, is what `run` answers and leaves for the new one.
use mathlib.Core.Path.{◌≡◌, refl, sym, ap, ◌∙◌}
use mathlib.Core.Bool.{Bool, true, false, cond}
use mathlib.Core.List.{List, ◌++◌}
use Prim.Native.Nat.{ℕ, ◌≤◌}
use lib.Dec.{ltb}
use lib.ListN.{length, take, drop}
use lib.Seq.{take-append_seam}
use borrow.Author.Tests.{ltb-false}
use Rattle.text.specs.Limits.{max_chars}
use Rattle.text.specs.Refusals.{too_long, short_slice, broken_scope}
use Rattle.scope.specs.Lent.{Lent, is_broken, scope_of}
use Rattle.scope.specs.Keys.{is_name}
use Rattle.lexer.specs.Flags.{Flags}
use Rattle.lexer.specs.Token.{read_token}
use Rattle.runs.specs.Run.{Reader, run_items}
use Rattle.runs.specs.Edit.{Edit, edited}
use Rattle.runs.specs.Repair.{last_kept}
use Rattle.runs.specs.Record.{Record, unpack}
use Rattle.runs.specs.Request.{Request}
use Rattle.runs.specs.Calls.{Room, has_room, made, refused, room_after, run_record, checked, run_call, repair_call}
use Rattle.repair.specs.Asking.{asked}
use Rattle.runs.specs.Ran.{answer_of, Ran}
use Rattle.repair.specs.Repaired.{Repaired}
use Rattle.runs.specs.declared.call.Counts.{Counts}
use Rattle.runs.proofs.RefusalLaws.{numbered-same}
use Rattle.runs.proofs.RunCallLaws.{made_of}
use Rattle.std.specs.Prelude.{Result, Ok}
use Rattle.text.specs.declared.refusal.Refusal.{Refusal}
use Rattle.runs.proofs.Demand3.{request_of, demand_3}
use Rattle.runs.proofs.RecordLaws.{unpacked}

-- A call that made a record was not refused.
pub made_by : (lent : Lent) (room : Room) (n : ℕ) (r : Record) {c : Counts} → made_of c ≡ answer_of (checked lent room n r) → (n ≤ max_chars) × (checked lent room n r ≡ made r) × (c.items ≡ length r.rows)
made_by lent room n r = go (ltb max_chars n) refl (is_broken lent) (has_room n room)
  where
    go : {c : Counts} (x : Bool) → ltb max_chars n ≡ x → (y z : Bool) → made_of c ≡ answer_of (cond x (refused too_long) (cond y (refused broken_scope) (cond z (made r) (refused short_slice))))
        → (n ≤ max_chars) × (cond x (refused too_long) (cond y (refused broken_scope) (cond z (made r) (refused short_slice))) ≡ made r) × (c.items ≡ length r.rows)
    go true e y z p = cc
    go false e true z p = cc
    go false e false false p = cc
    go {c} false e false true p = let q : c ≡ record { items = length r.rows; cells = length r.store } = cc in (ltb-false max_chars n e, refl, ap (λ x. x.items) q)

module _ (lent : Lent) (k : ℕ) (f : Flags) (old : List ℕ) (first : Room) {left : Room} {n m : ℕ} (ran : Ran lent k f old first (Ok (record { items = n; cells = m })) left) (a b : ℕ) (put : List ℕ) where
  abbrev edit : Edit
  edit = record { from = a; to = b; size = length put }

  abbrev new : List ℕ
  new = edited old a b put

  -- The rows that `run` counted, its store as it left it, and nothing of the new text before the last kept position.
  abbrev pub handed : Request
  handed =
      let rows = take n left.rows in
      asked (length old) rows left.store a b (length put) (drop (last_kept edit (unpack (record { rows = rows; store = left.store })) 0) new)

  abbrev reader : Reader
  reader = read_token (is_name (scope_of lent))

  abbrev record_of : Record
  record_of = run_record (scope_of lent) k f old

  facts : (length old ≤ max_chars) × (run_call lent first k f old ≡ made record_of) × (n ≡ length record_of.rows)
  facts = made_by lent first (length old) record_of ran.answer

  same-room : left ≡ room_after (made record_of) first
  same-room = ran.left ∙ ap (λ x. room_after x first) facts.1

  same_rows : take n left.rows ≡ record_of.rows
  same_rows = ap (λ x. take n x.rows) same-room ∙ ap (λ i. take i (record_of.rows ++ drop (length record_of.rows) first.rows)) facts.2 ∙ take-append_seam record_of.rows _

  pub behind : List ℕ
  behind = drop (length record_of.store) first.store

  same_store : left.store ≡ record_of.store ++ behind
  unfolding behind
  same_store = ap (λ x. x.store) same-room

  pub same-request : handed ≡ request_of reader k f old a b put behind
  same-request =
      ap (λ rs. asked (length old) rs left.store a b (length put) (drop (last_kept edit (unpack (record { rows = rs; store = left.store })) 0) new)) same_rows
      ∙ ap (λ s. asked (length old) record_of.rows s a b (length put) (drop (last_kept edit (unpack (record { rows = record_of.rows; store = s })) 0) new)) same_store
      ∙ ap (λ is. asked (length old) record_of.rows (record_of.store ++ behind) a b (length put) (drop (last_kept edit is 0) new)) (unpacked behind (run_items reader k f old))

  -- The whole answer and every cell of the three slices.
  pub calls_agree : a ≤ b → b ≤ length old → (room : Room) {r r' : Result Counts Refusal} {after after' : Room} → Repaired lent handed room r after → Ran lent k f new room r' after' → (r ≡ r') × (after ≡ after')
  calls_agree ordered within room p q =
      let e = ap (repair_call lent room) same-request ∙ demand_3 lent room k f old a b put behind ordered within facts.0 in
      (numbered-same (p.answer ∙ ap answer_of e ∙ sym q.answer), p.left ∙ ap (λ x. room_after x room) e ∙ sym q.left)
