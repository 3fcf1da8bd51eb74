-- A corollary: a record repaired after each of some edits is the record of one run of the last text.
use mathlib.Core.Path.{◌≡◌, refl, sym, ap, ◌∙◌}
use mathlib.Core.List.{List, [], ◌∷◌, ◌++◌, append-nil}
use Prim.Native.Nat.{ℕ, ◌≤◌}
use lib.ListN.{length, drop}
use Rattle.text.specs.Limits.{max_chars}
use Rattle.lexer.specs.Flags.{Flags}
use Rattle.runs.specs.Run.{Reader, run_items}
use Rattle.runs.specs.Edit.{Change, changed, edit_of}
use Rattle.runs.specs.Repair.{last_kept}
use Rattle.runs.specs.Record.{Record, rows_from, store_of, pack, unpack, repair}
use Rattle.runs.proofs.RunLaws.{IsSound}
use Rattle.runs.proofs.RecordLaws.{unpacked}
use Rattle.runs.proofs.Demand3.{record_repaired}

-- Each edit lies in the text that it meets, and leaves one within the limit.
abbrev pub Fits : List ℕ → List Change → Type 0
Fits t [] = Unit
Fits t (c ∷ cs) = (c.from ≤ c.to) × (c.to ≤ length t) × (length (changed t c) ≤ max_chars) × Fits (changed t c) cs

abbrev pub changed_by : List ℕ → List Change → List ℕ
changed_by t [] = t
changed_by t (c ∷ cs) = changed_by (changed t c) cs

-- The record repaired once for each edit, from the new text behind its last kept position.
abbrev pub repaired_by : Reader → Record → List ℕ → List Change → Record
repaired_by tok r t [] = r
repaired_by tok r t (c ∷ cs) = repaired_by tok (repair tok (edit_of c) r (drop (last_kept (edit_of c) (unpack r) 0) (changed t c))) (changed t c) cs

module _ (tok : Reader) (facts : IsSound tok) (k : ℕ) (f : Flags) where
  abbrev run_of : List ℕ → Record
  run_of t = pack (run_items tok k f t)

  store_nil : (t : List ℕ) → record { rows = rows_from 0 (run_items tok k f t); store = store_of (run_items tok k f t) ++ [] } ≡ run_of t
  store_nil t = rw append-nil

  once : (t : List ℕ) → length t ≤ max_chars → (c : Change) → c.from ≤ c.to → c.to ≤ length t → length (changed t c) ≤ max_chars
      → repair tok (edit_of c) (run_of t) (drop (last_kept (edit_of c) (unpack (run_of t)) 0) (changed t c)) ≡ run_of (changed t c)
  once t l c a b m =
      ap (λ is. repair tok (edit_of c) (run_of t) (drop (last_kept (edit_of c) is 0) (changed t c))) (sym (ap unpack (store_nil t)) ∙ unpacked [] (run_items tok k f t))
      ∙ ap (λ r. repair tok (edit_of c) r (drop (last_kept (edit_of c) (run_items tok k f t) 0) (changed t c))) (sym (store_nil t))
      ∙ record_repaired tok facts k f t c.from c.to c.new [] a b l m

  pub edits_repaired : (t : List ℕ) → length t ≤ max_chars → (cs : List Change) → Fits t cs → repaired_by tok (run_of t) t cs ≡ run_of (changed_by t cs)
  edits_repaired t l [] h = refl
  edits_repaired t l (c ∷ cs) h = ap (λ r. repaired_by tok r (changed t c) cs) (once t l c h.0 h.1 h.2) ∙ edits_repaired (changed t c) h.2 cs h.3
