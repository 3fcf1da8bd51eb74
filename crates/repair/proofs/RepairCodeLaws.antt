-- Repair in code: an accepted request bounds the kept rows, the fresh ones and the old rest, and the three lots are the repaired items.
use mathlib.Core.Path.{◌≡◌, refl, sym, ap, ◌∙◌}
use mathlib.Core.Bool.{Bool, true, false, ◌||◌, not, false≢true}
use mathlib.Core.List.{List, [], ◌∷◌, ◌++◌, map}
use Prim.Native.Nat.{ℕ, zero, suc, ◌+◌, ◌-◌, ◌≤◌, ◌<◌}
use native.Mathlib.Omega.{arith}
use native.Mathlib.Numerals.{add-one}
use lib.Dec.{ltb, eqb}
use lib.ListN.{length, get_or, take, drop, length-append, length-take, length-drop, length-map}
use lib.Seq.{length-take-le, take_all, take-length, get_or-take, get_or-drop, drop-length}
use borrow.Author.Tests.{lt-ltb, le-ltb, ltb-false, eqb-true, not-false}
use Rattle.reading.proofs.Test.{by_test, by_order}
use Rattle.text.specs.Limits.{max_chars}
use Rattle.lexer.specs.Flags.{Flags}
use Rattle.repair.specs.declared.repair.Matched.{Matched}
use Rattle.runs.specs.Item.{Item}
use Rattle.runs.specs.Run.{Reader}
use Rattle.runs.specs.Edit.{Edit, moved, moved_item}
use Rattle.runs.specs.Repair.{is_kept, last_kept, repair_items}
use Rattle.runs.specs.Record.{Record, item_of, store_of, bit_flags, position_at, flags_at, length_at, start_at}
use Rattle.runs.specs.Request.{Request, rows_fit, first_fits, record_fits, new_length, part_start, is_broken_request}
use Rattle.repair.specs.Asking.{KeptRows, fresh_behind, Askable}
use Rattle.runs.specs.Copied.{moved_items, Movable, Copyable, Behind}
use Rattle.repair.specs.Match.{Accepted, place_at}
use Rattle.repair.specs.Repaired.{put_at, ToMatch}
use Rattle.repair.proofs.KeptLaws.{items_of, part-at-row, one_kept, repaired-all, repaired_some}
use Rattle.repair.proofs.FittingLaws.{first_of, followed_by, first_place, first-behind, record_first, record_from, record_row, cells_in, bounded}
use Rattle.runs.proofs.BehindLaws.{behind_more}

-- What an accepted request is known to be.
pub record Facts (q : Request) : Type 0 where
  pub ordered : q.edit.from ≤ q.edit.to
  pub in_text : q.edit.to ≤ q.old_length
  pub limit : q.old_length ≤ max_chars
  pub fits : record_fits q.old_length q.old ≡ true
  pub ends : part_start q + length q.part ≡ new_length q

-- An edit in order and in its text is refused for the text's length.
pub too_long_lem : (q : Request) → q.edit.from ≤ q.edit.to → q.edit.to ≤ q.old_length → max_chars < q.old_length → true ≡ is_broken_request q
too_long_lem q a b h = rw (le-ltb q.edit.to q.edit.from a, le-ltb q.old_length q.edit.to b, lt-ltb _ _ h)

or_false : (b c : Bool) → b || c ≡ false → (b ≡ false) × (c ≡ false)
or_false true c h = absurd (false≢true (sym h))
or_false false c h = (refl, h)

pub facts : (q : Request) → is_broken_request q ≡ false → Facts q
facts q h =
    let a = ltb q.edit.to q.edit.from in
    let b = ltb q.old_length q.edit.to in
    let c = ltb max_chars q.old_length in
    let d = record_fits q.old_length q.old in
    let e = eqb (part_start q + length q.part) (new_length q) in
    let u = or_false (a || b || c || not d) (not e) h in
    let v = or_false (a || b || c) (not d) u.0 in
    let w = or_false (a || b) c v.0 in
    let x = or_false a b w.0 in
    record {
      ordered = ltb-false q.edit.to q.edit.from x.0;
      in_text = ltb-false q.old_length q.edit.to x.1;
      limit = ltb-false max_chars q.old_length w.1;
      fits = not-false d v.1;
      ends = eqb-true _ _ (not-false e u.1);
    }

-- A row of those behind p, by its place: no more rows and cells come before it than places do.
pub record Reached (rows : List (List ℕ)) (i p : ℕ) : Type 0 where
  pub few : p + i ≤ place_at rows i
  pub cells : p + cells_in (take (suc i) rows) ≤ place_at rows i
  pub more : suc i < length rows → p + suc i ≤ place_at rows i

reached : (n m at p : ℕ) (rs : List (List ℕ)) → rows_fit n m at p rs ≡ true → (i : ℕ) → i < length rs → Reached rs i p
reached n m at p [] h i l = absurd (omega arith)
reached n m at p (r ∷ []) h zero l = let f = first_of n m at p r [] h in record { few = omega (arith, f.behind); cells = omega (arith, f.behind); more = λ o. absurd (omega arith) }
reached n m at p (r ∷ []) h (suc i) l = absurd (omega arith)
reached n m at p (r ∷ s ∷ rs) h zero l =
    let f = first_of n m at p r (s ∷ rs) h in
    let g = followed_by n m at p r s rs h in
    record { few = omega (arith, f.behind); cells = omega (arith, f.behind); more = λ o. omega (arith, g.0) }
reached n m at p (r ∷ s ∷ rs) h (suc i) l =
    let f = first_of n m at p r (s ∷ rs) h in
    let g = followed_by n m at p r s rs h in
    let w = reached n m (at + get_or r length_at 0) (get_or r position_at 0) (s ∷ rs) g.1 i (omega arith) in
    record { few = omega (arith, g.0, w.few); cells = omega (arith, f.behind, w.cells); more = λ o. omega (arith, g.0, w.more (omega arith)) }

-- The same of a whole record, whose first row stands at 0.
pub record Placed (rows : List (List ℕ)) (i : ℕ) : Type 0 where
  pub few : i ≤ place_at rows i + 1
  pub cells : cells_in (take (suc i) rows) ≤ place_at rows i
  pub more : suc i < length rows → i ≤ place_at rows i

record_placed : (n : ℕ) (r : Record) → record_fits n r ≡ true → (i : ℕ) → i < length r.rows → Placed r.rows i
record_placed n r fits i l = go r.rows (record_first n r fits) i l
  where
    go : (rs : List (List ℕ)) → first_fits n (length r.store) rs ≡ true → (i : ℕ) → i < length rs → Placed rs i
    go [] h i l = absurd (omega arith)
    go (s ∷ rs) h zero l = let f = first_place n (length r.store) s rs h in record { few = omega arith; cells = omega (arith, f.fits.behind, f.place); more = λ o. omega arith }
    go (s ∷ []) h (suc i) l = absurd (omega arith)
    go (s ∷ t ∷ rs) h (suc i) l =
        let f = first_place n (length r.store) s (t ∷ rs) h in
        let w = reached n (length r.store) 0 0 (t ∷ rs) (first-behind n (length r.store) s t rs h) i (omega arith) in
        record { few = omega (arith, w.few); cells = omega (arith, f.fits.behind, f.place, w.cells); more = λ o. omega (arith, w.more (omega arith)) }

-- The value cells of some rows.
take_short : (n : ℕ) (l : List ℕ) → length (take n l) ≤ n
take_short n l = rw length-take (omega arith)

store_cells : (rs : List (List ℕ)) (values : List ℕ) → length (store_of (map (item_of values) rs)) ≤ cells_in rs
store_cells [] values = omega arith
store_cells (r ∷ rs) values =
    omega (arith, length-append (take (get_or r length_at 0) (drop (get_or r start_at 0) values)) (store_of (map (item_of values) rs)), take_short (get_or r length_at 0) (drop (get_or r start_at 0) values), store_cells rs values)

moved_store : (e : Edit) (is : List Item) → store_of (map (moved_item e) is) ≡ store_of is
moved_store e [] = refl
moved_store e (i ∷ is) = ap (λ s. i.value ++ s) (moved_store e is)

moved-cells : (e : Edit) (rs : List (List ℕ)) (values : List ℕ) → length (store_of (moved_items e rs values)) ≤ cells_in rs
moved-cells e rs values = rw moved_store (store_cells rs values)

-- No edit moves nothing.
pub moved_none : (is : List Item) → map (moved_item (put_at 0)) is ≡ is
moved_none [] = refl
moved_none (i ∷ is) =
    let a : moved (put_at 0) i.position ≡ i.position = omega arith in
    let b : moved (put_at 0) i.reach ≡ i.reach = omega arith in
    rw (a, b, moved_none is)

-- The part begins within the old text.
last_within : (e : Edit) (store : List ℕ) (n : ℕ) (rs : List (List ℕ)) → ((i : ℕ) → i < length rs → place_at rs i ≤ n) → (p : ℕ) → p ≤ n → last_kept e (items_of rs store) p ≤ n
last_within e store n [] h p l = l
last_within e store n (r ∷ rs) h p l = by_test (λ x. x ≤ n) (is_kept e (item_of store r)) (λ _. last_within e store n rs (λ i o. h (suc i) (omega arith)) (get_or r position_at 0) (h 0 (omega arith))) (λ _. l)

pub start-within : (q : Request) → Facts q → part_start q ≤ q.old_length
start-within q f = last_within q.edit q.old.store q.old_length q.old.rows (λ i l. (record_row q.old_length q.old f.fits i l).in_text) 0 (omega arith)

module _ {rows : List (List ℕ)} {store : List ℕ} {e : Edit} {part : List ℕ} {n m k : ℕ} (a : Askable rows store e part n m k) where
  abbrev ask : Request
  ask = record { old_length = a.size; old = record { rows = rows; store = store }; edit = e; part = part }

  known : Facts ask
  known = facts ask a.whole

  pub askable_accepted : Accepted rows
  askable_accepted = record { size = a.size; store = store; fits = known.fits; limit = known.limit }

  -- A row can be moved by an edit that ends at its place or before it.
  movable : (g : Edit) (i : ℕ) → i < length rows → g.to ≤ place_at rows i → Movable g (length store) (get_or rows i [])
  movable g i l h =
      let f = record_row a.size ask.old known.fits i l in
      record { row = f.row; behind = h; looked = f.looked; near = omega (arith, f.near, known.limit); in_store = f.in_store }

  module _ {c : ℕ} (kept : KeptRows e.from rows c) where
    pub kept-one : 0 < c
    kept-one = one_kept a.size ask.old known.fits e kept

    kept-placed : Placed rows (c - 1)
    kept-placed = record_placed a.size ask.old known.fits (c - 1) (omega (arith, kept-one, kept.within))

    -- The part begins at the place of the last kept row.
    pub kept_place : place_at rows (c - 1) + length part ≡ moved e a.size
    kept_place =
        let f = record_row a.size ask.old known.fits (c - 1) (omega (arith, kept-one, kept.within)) in
        let p = part-at-row kept kept-one {p = place_at rows (c - 1)} refl (omega (arith, f.in_text, known.limit)) in
        omega (arith, p.last e store refl, known.ends)

    pub kept_copyable : Copyable (put_at 0) (take c rows) store
    kept_copyable = record {
      each = λ i l.
          let h : i < c = omega (arith, length-take-le c rows kept.within) in
          rw (get_or-take c rows i [] h) (movable (put_at 0) i (omega (arith, kept.within)) (omega arith));
    }

    pub kept-rows : c ≤ n
    kept-rows = omega (arith, kept-one, kept-placed.few, kept_place, a.rows_long)

    pub kept_few : c < length rows → c ≤ place_at rows (c - 1) + 1
    kept_few l = omega (arith, kept-one, kept-placed.more (omega (arith, kept-one)))

    pub kept-cells : length (store_of (items_of (take c rows) store)) ≤ place_at rows (c - 1)
    kept-cells =
        let z : suc (c - 1) ≡ c = omega (arith, kept-one) in
        let w : cells_in (take c rows) ≤ place_at rows (c - 1) = rw z at kept-placed.cells in
        omega (arith, store_cells (take c rows) store, w)

    pub kept-count : length (items_of (take c rows) store) ≡ c
    kept-count = length-map (take c rows) (item_of store) ∙ length-take-le c rows kept.within

    module _ (tok : Reader) where
      pub items-all : c ≡ length rows → items_of (take c rows) store ≡ repair_items tok e (items_of rows store) part
      items-all z = ap (λ rs. items_of rs store) (ap (λ x. take x rows) z ∙ take-length rows) ∙ sym (repaired-all a.size ask.old known.fits e kept tok part z)

      pub items_some : c < length rows → items_of (take c rows) store ++ fresh_behind tok e store part (items_of rows store) (get_or rows (c - 1) []) ≡ repair_items tok e (items_of rows store) part
      items_some l = sym (repaired_some a.size ask.old known.fits e kept tok part {j = c - 1} (omega (arith, kept-one)) l)

  -- Behind the fresh items: the old rest has its place, and there is room for it.
  module _ {tok : Reader} {base : ℕ} {f : Flags} {n₁ c₁ : ℕ} {rows₁ : List (List ℕ)} {store₁ : List ℕ} {o : Matched} {rows₂ : List (List ℕ)} {store₂ : List ℕ}
      (t : ToMatch tok e rows part base f n₁ c₁ rows₁ store₁ o rows₂ store₂) (ends : base + length part ≡ moved e a.size) (few : n₁ ≤ base + 1) (short : c₁ ≤ base) where
    pub rest-is : take (length rows - o.old) (drop o.old rows) ≡ drop o.old rows
    rest-is = take_all (length rows - o.old) (drop o.old rows) (omega (arith, length-drop o.old rows))

    pub rest_copyable : Copyable e (drop o.old rows) store
    rest_copyable = record {
      each = λ n h.
          let i = o.old + n in
          let l : i < length rows = omega (arith, length-drop o.old rows, t.within) in
          let u = t.left (omega arith) in
          let j = u.row in
          let r = get_or rows j [] in
          let fits = record_from a.size ask.old known.fits j (omega (arith, u.next)) in
          let w = reached a.size (length store) (get_or r start_at 0 + get_or r length_at 0) (place_at rows j) (drop (suc j) rows) fits (i - suc j) (omega (arith, u.next, length-drop (suc j) rows)) in
          let z : suc j + (i - suc j) ≡ i = omega (arith, u.next) in
          let y : place_at (drop (suc j) rows) (i - suc j) ≡ place_at rows i = ap (λ s. get_or s position_at 0) (get_or-drop (suc j) rows (i - suc j) [] ∙ ap (λ x. get_or rows x []) z) in
          rw (get_or-drop o.old rows n []) (movable e i l (omega (arith, u.behind, w.few, y)));
    }

    pub rest-rows : n ≡ length rows₁ → o.counts.items + length (drop o.old rows) ≤ length rows₁
    rest-rows same = rw length-drop (by_order o.old (length rows) some (λ h. omega (arith, t.behind.room)))
      where
        some : o.old < length rows → o.counts.items + (length rows - o.old) ≤ length rows₁
        some l =
            let u = t.left l in
            let j = u.row in
            let r = get_or rows j [] in
            let b = bounded a.size (length store) (get_or r start_at 0 + get_or r length_at 0) (place_at rows j) (drop (suc j) rows) (record_from a.size ask.old known.fits j (omega (arith, u.next))) in
            omega (arith, u.next, u.behind, u.few, b.count, length-drop (suc j) rows, a.rows_long, known.in_text)

    pub rest-cells : o.counts.cells + length (store_of (moved_items e (drop o.old rows) store)) ≤ moved e a.size
    rest-cells = by_order o.old (length rows) some none
      where
        some : o.old < length rows → o.counts.cells + length (store_of (moved_items e (drop o.old rows) store)) ≤ moved e a.size
        some l =
            let u = t.left l in
            let j = u.row in
            let r = get_or rows j [] in
            let b = bounded a.size (length store) (get_or r start_at 0 + get_or r length_at 0) (place_at rows j) (drop (suc j) rows) (record_from a.size ask.old known.fits j (omega (arith, u.next))) in
            rw (u.next, add-one) (omega (arith, u.behind, u.short, b.cells, moved-cells e (drop (suc j) rows) store, known.in_text))

        none : length rows ≤ o.old → o.counts.cells + length (store_of (moved_items e (drop o.old rows) store)) ≤ moved e a.size
        none h =
            let z : o.old ≡ length rows = omega (arith, t.within) in
            rw (z, drop-length) (omega (arith, t.short, ends))

    pub rest_all : (last : ℕ) → base ≡ place_at rows last → f ≡ bit_flags (get_or (get_or rows last []) flags_at 0) → {n₃ c₃ : ℕ} {rows₃ : List (List ℕ)} {store₃ : List ℕ}
        → Behind o.counts.items o.counts.cells rows₂ store₂ (moved_items e (drop o.old rows) store) n₃ c₃ rows₃ store₃
        → Behind n₁ c₁ rows₁ store₁ (fresh_behind tok e store part (items_of rows store) (get_or rows last [])) n₃ c₃ rows₃ store₃
    rest_all last p g b =
        let z : t.fresh ++ moved_items e (drop o.old rows) store ≡ fresh_behind tok e store part (items_of rows store) (get_or rows last []) = rw (← p, ← g) (sym (t.all store)) in
        rw z at (behind_more t.behind b)

pub askable_same : {rows : List (List ℕ)} {store : List ℕ} {e : Edit} {part : List ℕ} {n m k n' m' k' : ℕ} → Askable rows store e part n m k → n' ≡ n → m' ≡ m → k' ≡ k → Askable rows store e part n' m' k'
askable_same a x y z = record { size = a.size; whole = a.whole; limit = a.limit; rows_long = omega (arith, x, a.rows_long); store_long = omega (arith, y, a.store_long); scratch_long = omega (arith, z, a.scratch_long) }

pub new-length_small : (q : Request) → is_broken_request q ≡ false → new_length q ≤ max_chars + length q.part
new-length_small q h = let f = facts q h in omega (arith, f.ends, f.limit, start-within q f)
