-- The record of a run passes every test of 13: the facts of a reading give them item by item.
use mathlib.Core.Path.{◌≡◌, refl, ap, ◌∙◌, subst}
use mathlib.Core.Bool.{Bool, true, false, cond, ◌&&◌, ◌||◌, not, false≢true}
use mathlib.Core.List.{List, [], ◌∷◌, ◌++◌}
use Prim.Native.Nat.{ℕ, suc, ◌+◌, ◌≤◌}
use native.Mathlib.Omega.{arith}
use lib.Dec.{eqb}
use borrow.Author.Tests.{le-leb, lt-ltb, eq-eqb, eqb-true, not-true}
use lib.ListN.{length, drop, length-append, length-drop}
use Rattle.reading.specs.Cells.{is_one_of}
use Rattle.reading.proofs.Test.{by_test, every}
use Rattle.text.specs.Limits.{max_chars}
use Rattle.lexer.specs.Flags.{Flags}
use Rattle.lexer.specs.Read.{Read, token, refused, nothing, truth, number, chars, cells_of, text_types, has_form}
use Rattle.lexer.specs.Lexer.{start_types, start_read}
use Rattle.lexer.specs.TokenType
use Rattle.runs.specs.Item.{Item, item, bit, ends_run}
use Rattle.runs.specs.Run.{Reader, seen, item_at, items, start_item, run_items}
use Rattle.runs.specs.Record.{flag_bits, row_of, rows_from, store_of}
use Rattle.runs.specs.Request.{is_number, adds_up, row_fits, rows_fit, record_fits}
use Rattle.runs.proofs.RecordLaws.{row_count_lem}
use Rattle.runs.proofs.RunLaws.{Runs, last, more, IsSound, complete, item_count}

and : {b c : Bool} → b ≡ true → c ≡ true → b && c ≡ true
and {b} {c} p q = ap (λ x. x && c) p ∙ q

neither : (b c : Bool) → not (b || c) ≡ true → (b ≡ false) × (not c ≡ true)
neither true c h = absurd (false≢true h)
neither false c h = (refl, h)

bit_small : (b : Bool) → bit b ≤ 1
bit_small true = omega arith
bit_small false = omega arith

flags_small : (f : Flags) → flag_bits f ≤ 31
flags_small f = omega (arith, bit_small f.unary_tests, bit_small f.between, bit_small f.type_name, bit_small f.till_in, bit_small f.after_dot)

-- The lengths of a number that was read add up.
module _ (start p q : ℕ) (f : Flags) where
  abbrev Adds : Read → Type 0
  Adds r = let row = row_of start (item r p f q) in not (is_number row) || adds_up row ≡ true

  adds : (r : Read) → has_form r ≡ true → Adds r
  adds (token k nothing) h =
      let b = neither (eqb TokenType.Boolean k) (is_one_of (TokenType.Numeric ∷ text_types) k) h in
      rw (neither (eqb TokenType.Numeric k) (is_one_of text_types k) b.1).0
  adds (token k (truth b)) h = subst (λ k. Adds (token k (truth b))) (eqb-true TokenType.Boolean k h) refl
  adds (token k (number b a m e)) h = subst (λ k. Adds (token k (number b a m e))) (eqb-true TokenType.Numeric k h) (eq-eqb (length b + length a + length e) (length (b ++ a ++ e)) (simp length-append))
  adds (token k (chars cs)) h = rw (not-true (eqb TokenType.Numeric k) (every (λ k. not (eqb TokenType.Numeric k)) text_types k refl h))
  adds (refused n c) h = refl

row_fits_lem : (n m at p : ℕ) (r : Read) (j : ℕ) (f : Flags) (q : ℕ) → has_form r ≡ true → j ≤ n → j ≤ q → q ≤ n + 12 → at + length (cells_of r) ≤ m → p + length (cells_of r) ≤ j
    → row_fits n m at p (row_of at (item r j f q)) ≡ true
row_fits_lem n m at p r j f q h a b c d e =
    let i = item r j f q in
    let small : bit i.is_refusal ≤ 1 = bit_small i.is_refusal in
    and (and (and (and (and (and (and (and (le-leb _ _ small) (le-leb _ _ (flags_small f))) (adds at j q f r h)) (le-leb _ _ a)) (le-leb _ _ b)) (le-leb _ _ c)) (eq-eqb at at refl)) (le-leb _ _ d)) (le-leb _ _ e)

module _ (tok : Reader) (sound : IsSound tok) (t : List ℕ) (limit : length t ≤ max_chars) where
  item-fits : (p : ℕ) (f : Flags) (m at : ℕ) → p ≤ length t → at + length (item_at tok t p f).value ≤ m → row_fits (length t) m at p (row_of at (item_at tok t p f)) ≡ true
  item-fits p f m at h d =
      let l = length-drop p t in
      let s = sound (drop p t) f (omega arith) in
      let o = (seen tok (drop p t) f).answer in
      row_fits_lem (length t) m at p o.read _ o.flags _ s.formed (omega (arith, s.in_text)) (omega (arith, s.looked)) (omega (arith, s.near)) d (omega (arith, s.short))

  refused_back : (i : Item) → eqb (bit i.is_refusal) 1 ≡ i.is_refusal
  refused_back i = go i.is_refusal
    where
      go : (b : Bool) → eqb (bit b) 1 ≡ b
      go true = refl
      go false = refl

  items-fit : {p : ℕ} {f : Flags} {is : List Item} (m at : ℕ) → Runs tok t p f is → p ≤ length t → at + length (store_of is) ≤ m → rows_fit (length t) m at p (rows_from at is) ≡ true
  unfolding rows_fit
  items-fit {p} {f} m at (last h) l d =
      let i = item_at tok t p f in
      and (item-fits p f m at l (omega (arith, length-append i.value []))) (rw (refused_back i, h))
  items-fit {p} {f} m at (more {is = is} h r) l d =
      let i = item_at tok t p f in
      let n = length-drop p t in
      let s = sound (drop p t) f (omega arith) in
      let o = s.onward h in
      let w = s.in_text in
      let z = length-append i.value (store_of is) in
      and (item-fits p f m at l (omega arith)) (rw (refused_back i, h)
      (and (lt-ltb p i.position (omega arith)) (items-fit m (at + length i.value) r (omega arith) (omega arith))))

  start_form : (k : ℕ) → has_form (start_read k) ≡ true
  start_form k = by_test (λ n. has_form (token n nothing) ≡ true) (is_one_of start_types k) (λ h. every (λ n. has_form (token n nothing)) start_types k refl h) (λ _. refl)

  -- Whatever lies behind the used store.
  pub record_fits_lem : (k : ℕ) (f : Flags) (behind : List ℕ) → let is = run_items tok k f t in record_fits (length t) (record { rows = rows_from 0 is; store = store_of is ++ behind }) ≡ true
  record_fits_lem k f behind = go (ends_run (start_item k f)) refl
    where
      first : (m : ℕ) → row_fits (length t) m 0 0 (row_of 0 (start_item k f)) ≡ true
      first m = row_fits_lem (length t) m 0 0 (start_read k) 0 f 0 (start_form k) (omega arith) (omega arith) (omega arith) (omega arith) (omega arith)

      go : (c : Bool) → ends_run (start_item k f) ≡ c
          → let is = start_item k f ∷ cond c [] (items tok (length t + 1) t 0 f) in record_fits (length t) (record { rows = rows_from 0 is; store = store_of is ++ behind }) ≡ true
      go true e = rw e (and (le-leb 1 (length t + 2) (omega arith)) (and (and (and (first (length behind)) refl) refl) refl))
      go false e =
          let is = items tok (length t + 1) t 0 f in
          let count : suc (length (rows_from 0 is)) ≤ length t + 2 = omega (arith, row_count_lem 0 is, item_count tok (length t + 1) t 0 f) in
          rw e (and (le-leb _ _ count) (and (and (and (first (length (store_of is ++ behind))) refl) refl)
          (items-fit (length (store_of is ++ behind)) 0 (complete tok sound t limit 0 f) (omega arith) (omega (arith, length-append (store_of is) behind)))))
