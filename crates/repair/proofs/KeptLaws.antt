-- The count of kept rows, row by row, the position of the last of them, and repair by that count.
use mathlib.Core.Path.{◌≡◌, refl, sym, ap, ◌∙◌}
use mathlib.Core.Bool.{Bool, true, false, cond, false≢true}
use mathlib.Core.List.{List, [], ◌∷◌, ◌++◌}
use Prim.Native.Nat.{ℕ, zero, suc, ◌-◌, ◌<◌}
use native.Mathlib.Omega.{arith}
use native.Mathlib.Numerals.{one-add}
use lib.Dec.{leb}
use lib.ListN.{length, get_or, take, drop}
use borrow.Author.Tests.{le-leb}
use Rattle.std.specs.List.{prefix_len, take_while}
use Rattle.std.proofs.lemmas.List.Folds.{length-prefix_len}
use Rattle.std.proofs.lemmas.List.Sums.{prefix_len-le-length}
use Rattle.runs.specs.Item.{Item}
use Rattle.runs.specs.Edit.{Edit}
use Rattle.runs.specs.Repair.{is_kept, last_kept, repaired_from, repair_items}
use Rattle.runs.specs.Run.{Reader}
use Rattle.runs.specs.Record.{Record, item_of, reach_at, position_at, unpack}
use Rattle.runs.specs.Request.{first_fits, record_fits}
use Rattle.repair.specs.Asking.{kept_count, KeptRows, PartStart, fresh_behind}
use Rattle.repair.proofs.FittingLaws.{first_place, record_first}

-- The items of some rows.
abbrev pub items_of : List (List ℕ) → List ℕ → List Item
items_of rows store = unpack (record { rows = rows; store = store })

-- The rows before the first that looked behind `from`, as the code counts them.
module _ (from : ℕ) where
  abbrev pub reaches : List ℕ → Bool
  reaches r = leb (get_or r reach_at 0) from

  module _ (e : Edit) (store : List ℕ) (o : e.from ≡ from) where
    counted : (rows : List (List ℕ)) → prefix_len reaches rows ≡ kept_count e (items_of rows store)
    unfolding kept_count
    counted [] = refl
    counted (r ∷ rows) = rw (o, counted rows, one-add)

  pub kept_rows : (rows : List (List ℕ)) {k : ℕ} → k ≡ length (take_while reaches rows) → KeptRows from rows k
  kept_rows rows {k} h =
      let z : length (take_while reaches rows) ≡ prefix_len reaches rows = length-prefix_len reaches rows in
      record { within = omega (arith, h, z, prefix_len-le-length reaches rows); count = λ e store o. h ∙ z ∙ counted e store o rows }

module _ (e : Edit) (store : List ℕ) where
  last_none : (rows : List (List ℕ)) (p : ℕ) → 0 ≡ kept_count e (items_of rows store) → last_kept e (items_of rows store) p ≡ p
  unfolding kept_count
  last_none [] p h = refl
  last_none (r ∷ rows) p h = go (is_kept e (item_of store r)) h
    where
      go : (b : Bool) → 0 ≡ cond b (suc (kept_count e (items_of rows store))) 0 → cond b (last_kept e (items_of rows store) (get_or r position_at 0)) p ≡ p
      go true g = absurd (omega arith)
      go false g = refl

  last_some : (rows : List (List ℕ)) (p k : ℕ) → suc k ≡ kept_count e (items_of rows store) → last_kept e (items_of rows store) p ≡ get_or (get_or rows k []) position_at 0
  unfolding kept_count
  last_some [] p k h = absurd (omega arith)
  last_some (r ∷ rows) p k h = go (is_kept e (item_of store r)) k h (last_none rows (get_or r position_at 0)) (last_some rows (get_or r position_at 0))
    where
      go : (b : Bool) (k : ℕ) → suc k ≡ cond b (suc (kept_count e (items_of rows store))) 0
          → (0 ≡ kept_count e (items_of rows store) → last_kept e (items_of rows store) (get_or r position_at 0) ≡ get_or r position_at 0)
          → ((k : ℕ) → suc k ≡ kept_count e (items_of rows store) → last_kept e (items_of rows store) (get_or r position_at 0) ≡ get_or (get_or rows k []) position_at 0)
          → cond b (last_kept e (items_of rows store) (get_or r position_at 0)) p ≡ get_or (get_or (r ∷ rows) k []) position_at 0
      go true zero g none some = none (omega arith)
      go true (suc k) g none some = some k (omega arith)
      go false k g none some = absurd (omega arith)

module _ {from : ℕ} {rows : List (List ℕ)} {k : ℕ} (kept : KeptRows from rows k) where
  pub part-at-start : k ≡ 0 → PartStart from rows 0
  part-at-start z = record { small = omega arith; last = λ e store o. sym (last_none e store rows 0 (sym z ∙ kept.count e store o)) }

  pub part-at-row : 0 < k → {p : ℕ} → p ≡ get_or (get_or rows (k - 1) []) position_at 0 → p < 4_294_967_296 → PartStart from rows p
  part-at-row h q l = record { small = l; last = λ e store o. q ∙ sym (last_some e store rows 0 (k - 1) (omega (arith, kept.count e store o))) }

-- Repair by the count: the kept rows, and behind them, if rows are left, what follows the last of them.
module _ (tok : Reader) (e : Edit) (store part : List ℕ) where
  module _ (old : List Item) where
    all-kept : (r : List ℕ) (rs : List (List ℕ)) → length rs ≡ kept_count e (items_of rs store) → let i = item_of store r in repaired_from tok e old part (items_of rs store) i.position i.flags ≡ items_of rs store
    unfolding kept_count repaired_from
    all-kept r [] h = refl
    all-kept r (s ∷ rs) h = go (is_kept e (item_of store s)) h (all-kept s rs)
      where
        go : (b : Bool) → suc (length rs) ≡ cond b (suc (kept_count e (items_of rs store))) 0
            → (length rs ≡ kept_count e (items_of rs store) → let i = item_of store s in repaired_from tok e old part (items_of rs store) i.position i.flags ≡ items_of rs store)
            → let i = item_of store s in cond b (i ∷ repaired_from tok e old part (items_of rs store) i.position i.flags) (fresh_behind tok e store part old r) ≡ i ∷ items_of rs store
        go true g more = ap (λ is. item_of store s ∷ is) (more (omega arith))
        go false g more = absurd (omega arith)

    some_kept : (r : List ℕ) (rs : List (List ℕ)) (k : ℕ) → k ≡ kept_count e (items_of rs store) → k < length rs
        → let i = item_of store r in repaired_from tok e old part (items_of rs store) i.position i.flags ≡ items_of (take k rs) store ++ fresh_behind tok e store part old (get_or (r ∷ rs) k [])
    unfolding kept_count repaired_from
    some_kept r [] k h l = absurd (omega arith)
    some_kept r (s ∷ rs) k h l = go (is_kept e (item_of store s)) k h l (some_kept s rs)
      where
        go : (b : Bool) (k : ℕ) → k ≡ cond b (suc (kept_count e (items_of rs store))) 0 → k < suc (length rs)
            → ((k : ℕ) → k ≡ kept_count e (items_of rs store) → k < length rs
            → let i = item_of store s in repaired_from tok e old part (items_of rs store) i.position i.flags ≡ items_of (take k rs) store ++ fresh_behind tok e store part old (get_or (s ∷ rs) k []))
            → let i = item_of store s in cond b (i ∷ repaired_from tok e old part (items_of rs store) i.position i.flags) (fresh_behind tok e store part old r) ≡ items_of (take k (s ∷ rs)) store ++ fresh_behind tok e store part old (get_or (r ∷ s ∷ rs) k [])
        go true zero g l more = absurd (omega arith)
        go true (suc k) g l more = ap (λ is. item_of store s ∷ is) (more k (omega arith) (omega arith))
        go false zero g l more = refl
        go false (suc k) g l more = absurd (omega arith)

-- Of an accepted record the first row is kept, as it has looked at nothing.
module _ (n : ℕ) (r : Record) (fits : record_fits n r ≡ true) (e : Edit) {k : ℕ} (kept : KeptRows e.from r.rows k) where
  first-kept : (rows : List (List ℕ)) → first_fits n (length r.store) rows ≡ true → k ≡ kept_count e (items_of rows r.store) → k ≡ suc (kept_count e (items_of (drop 1 rows) r.store))
  unfolding kept_count
  first-kept [] h q = absurd (false≢true h)
  first-kept (s ∷ rows) h q = q ∙ rw (le-leb (get_or s reach_at 0) e.from (omega (arith, (first_place n (length r.store) s rows h).reach)))

  pub one_kept : 0 < k
  one_kept = omega (arith, first-kept r.rows (record_first n r fits) (kept.count e r.store refl))

  module _ (tok : Reader) (part : List ℕ) where
    pub repaired-all : k ≡ length r.rows → repair_items tok e (unpack r) part ≡ unpack r
    repaired-all z = go r.rows z (first-kept r.rows (record_first n r fits) (kept.count e r.store refl))
      where
        go : (rows : List (List ℕ)) → k ≡ length rows → k ≡ suc (kept_count e (items_of (drop 1 rows) r.store)) → repair_items tok e (items_of rows r.store) part ≡ items_of rows r.store
        go [] z q = refl
        go (s ∷ rows) z q = ap (λ is. item_of r.store s ∷ is) (all-kept tok e r.store part (items_of (s ∷ rows) r.store) s rows (omega arith))

    pub repaired_some : {j : ℕ} → k ≡ suc j → k < length r.rows → repair_items tok e (unpack r) part ≡ items_of (take k r.rows) r.store ++ fresh_behind tok e r.store part (unpack r) (get_or r.rows j [])
    repaired_some {j} o l = rw o (go r.rows (omega arith) (first-kept r.rows (record_first n r fits) (kept.count e r.store refl)))
      where
        go : (rows : List (List ℕ)) → suc j < length rows → k ≡ suc (kept_count e (items_of (drop 1 rows) r.store))
            → repair_items tok e (items_of rows r.store) part ≡ items_of (take (suc j) rows) r.store ++ fresh_behind tok e r.store part (items_of rows r.store) (get_or rows j [])
        go [] l q = absurd (omega arith)
        go (s ∷ rows) l q = ap (λ is. item_of r.store s ∷ is) (some_kept tok e r.store part (items_of (s ∷ rows) r.store) s rows j (omega arith) (omega arith))
