-- Demand 3 about records as structs: the rows of a run, read into items and written back, are the rows that `run` counted, so that the request built of them is the one of `calls_agree`.
-- Reading and writing undo each other on rows of items (`rows_back`), and a run's rows are such.
use mathlib.Core.Path.{◌≡◌, sym, ap, ◌∙◌, subst}
use mathlib.Core.List.{List, map}
use Prim.Native.Nat.{ℕ, ◌≤◌}
use lib.ListN.{length, take, drop}
use lib.Seq.{take-append_seam}
use Rattle.scope.specs.Lent.{Lent, scope_of}
use Rattle.scope.specs.Keys.{is_name}
use Rattle.lexer.specs.Flags.{Flags}
use Rattle.lexer.specs.Token.{read_token}
use Rattle.std.specs.Prelude.{Result, Ok}
use Rattle.text.specs.declared.refusal.Refusal.{Refusal}
use Rattle.runs.specs.declared.call.Counts.{Counts}
use Rattle.runs.specs.Run.{run_items}
use Rattle.runs.specs.Edit.{Edit, edited}
use Rattle.runs.specs.Repair.{last_kept}
use Rattle.runs.specs.Record.{Record, unpack}
use Rattle.runs.specs.Request.{Request}
use Rattle.runs.specs.Calls.{Room, Answer, made, room_after, run_call, run_record}
use Rattle.runs.specs.Ran.{Ran}
use Rattle.repair.specs.Asking.{asked}
use Rattle.repair.specs.Repaired.{Repaired}
use Rattle.repair.proofs.BothCalls as calls
use Rattle.records.specs.declared.stored.Stored.{Stored}
use Rattle.records.specs.Stored.{stored_of, row_from}
use Rattle.records.specs.Items.{Copies, copied}
use Rattle.records.proofs.StoredLaws.{rows_back}
use Rattle.records.proofs.ReadBack.{copied_back}

-- `run` has made a record, `read_items` has read its rows, and `write_items` has written the items that it read; none was refused.
module _ (lent : Lent) (k : ℕ) (f : Flags) (old : List ℕ) (first : Room) {left : Room} {n m : ℕ} (ran : Ran lent k f old first (Ok (record { items = n; cells = m })) left)
    {xs items : List Stored} (read : Copies stored_of (take n left.rows) xs (Ok tt) items) {ys rows : List (List ℕ)} (written : Copies row_from (take n items) ys (Ok tt) rows) where
  abbrev record_of : Record
  record_of = run_record (scope_of lent) k f old

  facts : (run_call lent first k f old ≡ made record_of) × (n ≡ length record_of.rows)
  facts = let x = calls.made_by lent first (length old) record_of ran.answer in (x.1, x.2)

  counted : take n left.rows ≡ record_of.rows
  counted =
      ap (λ (x : Room). take n x.rows) (ran.left ∙ ap (λ (x : Answer). room_after x first) facts.0)
      ∙ ap (λ (i : ℕ). take i (room_after (made record_of) first).rows) facts.1 ∙ take-append_seam record_of.rows _

  all : length (take n left.rows) ≡ n
  all = ap length counted ∙ sym facts.1

  again : map row_from (map stored_of (take n left.rows)) ≡ take n left.rows
  again = ap (λ (rs : List (List ℕ)). map row_from (map stored_of rs)) counted ∙ rows_back 0 (run_items (read_token (is_name (scope_of lent))) k f old) ∙ sym counted

  pub same_rows : take n rows ≡ take n left.rows
  same_rows =
      ap (λ (i : ℕ). take i rows) (sym all)
      ∙ copied_back stored_of row_from (take n left.rows) again read (subst (λ (i : ℕ). Copies row_from (take i items) ys (Ok tt) rows) (sym all) written)

  module _ (a b : ℕ) (put : List ℕ) where
    abbrev edit : Edit
    edit = record { from = a; to = b; size = length put }

    abbrev new : List ℕ
    new = edited old a b put

    -- A repair is asked of the rows that were written, with the store as `run` left it.
    abbrev ask : List (List ℕ) → Request
    ask rs = asked (length old) rs left.store a b (length put) (drop (last_kept edit (unpack (record { rows = rs; store = left.store })) 0) new)

    abbrev pub handed : Request
    handed = ask (take n rows)

    pub same-request : handed ≡ calls.handed lent k f old first ran a b put
    same-request = ap ask same_rows

    -- The whole answer, every cell of the three slices, and the items that are read of any of the rows.
    pub items_agree : a ≤ b → b ≤ length old → (room : Room) {r r' : Result Counts Refusal} {after after' : Room} → Repaired lent handed room r after → Ran lent k f new room r' after'
        → (r ≡ r') × (after ≡ after') × ((i : ℕ) (zs : List Stored) → copied stored_of (take i after.rows) zs ≡ copied stored_of (take i after'.rows) zs)
    items_agree ordered within room {r} {after = after} p q =
        let e = calls.calls_agree lent k f old first ran a b put ordered within room (subst (λ (x : Request). Repaired lent x room r after) same-request p) q in
        (e.0, e.1, λ i zs. ap (λ (x : Room). copied stored_of (take i x.rows) zs) e.1)
