-- Demand 3: repair of an old run's record gives the record of a run of the new text, as one equation between whole records, and between whole answers of the calls.
use mathlib.Core.Path.{◌≡◌, refl, sym, ap, ◌∙◌}
use mathlib.Core.Bool.{Bool, true, false, cond}
use mathlib.Core.List.{List, [], ◌∷◌, ◌++◌}
use Prim.Native.Nat.{ℕ, ◌+◌, ◌≤◌}
use native.Mathlib.Omega.{arith}
use lib.Dec.{ltb}
use borrow.Author.Tests.{leb-true, le-ltb, ltb-false, eq-eqb}
use lib.ListN.{length, drop, length-drop}
use Rattle.reading.proofs.Test.{by_test}
use Rattle.text.specs.Limits.{max_chars}
use Rattle.text.specs.Refusals.{broken_request}
use Rattle.scope.specs.Keys.{is_name}
use Rattle.scope.specs.Lent.{Lent, scope_of}
use Rattle.lexer.specs.Flags.{Flags}
use Rattle.lexer.specs.Token.{read_token}
use Rattle.lexer.proofs.TokenFacts.{sound}
use Rattle.runs.specs.Item.{Item, ends_run}
use Rattle.runs.specs.Run.{Reader, item_at, items, start_item, run_items}
use Rattle.runs.specs.Edit.{Edit, edited, moved}
use Rattle.runs.specs.Repair.{is_kept, last_kept, repair_items}
use Rattle.runs.specs.Record.{Record, rows_from, store_of, pack, repair}
use Rattle.runs.specs.Request.{Request, part_start, new_length, is_broken_request}
use Rattle.runs.specs.Calls.{Room, refused, checked, run_call, repair_call}
use Rattle.runs.proofs.RunLaws.{Runs, last, more, IsSound, complete}
use Rattle.runs.proofs.RepairLaws.{edited-length, items-repaired}
use Rattle.runs.proofs.RecordLaws.{unpacked}
use Rattle.runs.proofs.RequestLaws.{record_fits_lem}

-- An item's position is no further than its reach, so what is kept lies before the edit.
module _ (tok : Reader) (facts : IsSound tok) (t : List ℕ) (limit : length t ≤ max_chars) (e : Edit) where
  kept-item : (p : ℕ) (f : Flags) → is_kept e (item_at tok t p f) ≡ true → (item_at tok t p f).position ≤ e.from
  kept-item p f g =
      let d = length-drop p t in
      omega (arith, (facts (drop p t) f (omega arith)).looked, leb-true (item_at tok t p f).reach e.from g)

  kept-before : {p : ℕ} {f : Flags} {is : List Item} → Runs tok t p f is → p ≤ e.from → last_kept e is p ≤ e.from
  kept-before {p} {f} (last h) l = by_test (λ q. q ≤ e.from) (is_kept e (item_at tok t p f)) (λ g. kept-item p f g) (λ _. l)
  kept-before {p} {f} (more h r) l = by_test (λ q. q ≤ e.from) (is_kept e (item_at tok t p f)) (λ g. kept-before r (kept-item p f g)) (λ _. l)

-- The request of a host that holds the record of a run of the old text, with anything behind the used store, and has the new text from the last kept position on.
abbrev pub request_of : Reader → ℕ → Flags → List ℕ → ℕ → ℕ → List ℕ → List ℕ → Request
request_of tok k f old a b put behind =
    let was = run_items tok k f old in
    let edit : Edit = record { from = a; to = b; size = length put } in
    record {
      old_length = length old;
      old = record { rows = rows_from 0 was; store = store_of was ++ behind };
      edit = edit;
      part = drop (last_kept edit was 0) (edited old a b put);
    }

module _ (tok : Reader) (facts : IsSound tok) (k : ℕ) (f : Flags) (old : List ℕ) (a b : ℕ) (put behind : List ℕ) (ordered : a ≤ b) (within : b ≤ length old) (limit : length old ≤ max_chars) where
  abbrev was : List Item
  was = run_items tok k f old

  abbrev edit : Edit
  edit = (request_of tok k f old a b put behind).edit

  kept-start : last_kept edit was 0 ≤ a
  kept-start = go (ends_run (start_item k f))
    where
      go : (c : Bool) → last_kept edit (start_item k f ∷ cond c [] (items tok (length old + 1) old 0 f)) 0 ≤ a
      go true = by_test (λ q. q ≤ a) (is_kept edit (start_item k f)) (λ _. omega arith) (λ _. omega arith)
      go false = by_test (λ q. q ≤ a) (is_kept edit (start_item k f)) (λ _. kept-before tok facts old limit edit (complete tok facts old limit 0 f) (omega arith)) (λ _. omega arith)

  -- Such a request is not refused as 13.
  pub accepted : is_broken_request (request_of tok k f old a b put behind) ≡ false
  accepted =
      let q = request_of tok k f old a b put behind in
      let l = edited-length old put a b ordered within in
      let d = length-drop (last_kept edit was 0) (edited old a b put) in
      let s = kept-start in
      let start : part_start q ≡ last_kept edit was 0 = ap (λ is. last_kept edit is 0) (unpacked behind was) in
      let fits : part_start q + length q.part ≡ new_length q = omega arith in
      rw (le-ltb b a ordered, le-ltb (length old) b within, le-ltb max_chars (length old) limit, record_fits_lem tok facts old limit k f behind, eq-eqb (part_start q + length q.part) (new_length q) fits)

  -- For any sound reader: item count, every field of every item and the used store, as one equation.
  -- Its second half, which kept items, fresh ones and old ones the record is made of, is `three_parts` (ThreeParts), for every accepted request.
  pub record_repaired : length (edited old a b put) ≤ max_chars → let q = request_of tok k f old a b put behind in repair tok q.edit q.old q.part ≡ pack (run_items tok k f (edited old a b put))
  record_repaired limit' =
      ap (λ is. pack (repair_items tok edit is (drop (last_kept edit was 0) (edited old a b put)))) (unpacked behind was)
      ∙ ap pack (items-repaired old put a b ordered within tok facts k f limit limit')

module _ (lent : Lent) (room : Room) where
  -- An answer depends on its record only within the limit.
  same_answer : (n : ℕ) (r s : Record) → (n ≤ max_chars → r ≡ s) → checked lent room n r ≡ checked lent room n s
  same_answer n r s e = go (ltb max_chars n) refl
    where
      go : (c : Bool) → ltb max_chars n ≡ c → checked lent room n r ≡ checked lent room n s
      go true h = rw h
      go false h = ap (checked lent room n) (e (ltb-false _ _ h))

  abbrev reader : Reader
  reader = read_token (is_name (scope_of lent))

  facts : IsSound reader
  facts t g l = sound (is_name (scope_of lent)) g t l

  -- For the token reader: repair answers what a run of the new text answers, its refusals 1, 10 and 9 included.
  pub demand_3 : (k : ℕ) (f : Flags) (old : List ℕ) (a b : ℕ) (put behind : List ℕ) → a ≤ b → b ≤ length old → length old ≤ max_chars
      → repair_call lent room (request_of reader k f old a b put behind) ≡ run_call lent room k f (edited old a b put)
  demand_3 k f old a b put behind ordered within limit =
      let q = request_of reader k f old a b put behind in
      let r = repair reader q.edit q.old q.part in
      ap (λ c. cond c (refused broken_request) (checked lent room (moved q.edit (length old)) r)) (accepted reader facts k f old a b put behind ordered within limit)
      ∙ ap (λ n. checked lent room n r) (sym (edited-length old put a b ordered within))
      ∙ same_answer (length (edited old a b put)) r _ (record_repaired reader facts k f old a b put behind ordered within limit)
