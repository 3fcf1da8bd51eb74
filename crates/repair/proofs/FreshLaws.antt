-- Items read afresh: an item of the part, written with its place in the whole text.
use Rattle.std.specs.Prelude.{None}
use mathlib.Core.Path.{◌≡◌, refl, sym, ap, ◌∙◌}
use mathlib.Core.Bool.{Bool, true, false, cond}
use mathlib.Core.List.{List, [], ◌∷◌, ◌++◌, map, append-nil, append_assoc}
use Prim.Native.Nat.{ℕ, suc, ◌+◌, ◌-◌, ◌≤◌, ◌<◌}
use native.Mathlib.Omega.{arith}
use lib.ListN.{length, get_or, set, length-append}
use lib.Seq.{set-set, get_or-set_same, drop-length}
use Rattle.lexer.specs.Flags.{Flags}
use Rattle.lexer.specs.FlagsOf.{flags_of}
use Rattle.lexer.specs.declared.flags.Flags.{Flags as Coded}
use Rattle.runs.specs.declared.run.Progress.{Progress}
use Rattle.repair.specs.declared.repair.Matched.{Matched}
use Rattle.runs.specs.Item.{Item, ends_run}
use Rattle.runs.specs.Run.{Reader, item_at, items}
use Rattle.runs.specs.Edit.{Edit, moved, moved_item}
use Rattle.runs.specs.Repair.{old_rest, followed, fresh_items}
use Rattle.runs.specs.Record.{position_at, reach_at, row_of, store_of, item_of}
use Rattle.runs.specs.Ran.{Next}
use Rattle.runs.specs.Copied.{moved_row, Behind}
use Rattle.repair.specs.Match.{Passed, Matching}
use Rattle.repair.specs.Repaired.{put_at, Fresh, ToMatch}
use Rattle.runs.proofs.RanLaws.{items-step}
use Rattle.repair.proofs.PointerLaws.{passed_none, passed_on, followed-fresh, followed_old}
use Rattle.runs.proofs.BehindLaws.{store_behind, behind_none, behind-one, behind_more}

module _ {tok : Reader} {part : List ℕ} {at : Progress} {rows : List (List ℕ)} {store : List ℕ} {at' : Progress} {rows' : List (List ℕ)} {store' : List ℕ} (n : Next tok part at rows store at' rows' store') (room : at.counts.items < length rows) where
  row_written : get_or rows' at.counts.items [] ≡ row_of at.counts.cells n.item
  row_written = ap (λ rs. get_or rs at.counts.items []) n.written.row ∙ get_or-set_same rows at.counts.items (row_of at.counts.cells n.item) [] room

  pub place_written : get_or (get_or rows' at.counts.items []) position_at 0 ≡ n.item.position
  place_written = ap (λ r. get_or r position_at 0) row_written

  pub reach_written : get_or (get_or rows' at.counts.items []) reach_at 0 ≡ n.item.reach
  reach_written = ap (λ r. get_or r reach_at 0) row_written

  pub fresh-is : (base : ℕ) {p q : ℕ} {rows'' : List (List ℕ)} → p ≡ base + n.item.position → q ≡ base + n.item.reach
      → rows'' ≡ set rows' at.counts.items (moved_row (get_or rows' at.counts.items []) p q at.counts.cells) → Fresh tok part base at rows store at' rows'' store'
  fresh-is base {p} {q} place far row =
      let i = n.item in
      let a : base + i.position ≡ moved (put_at base) i.position = omega arith in
      let b : base + i.reach ≡ moved (put_at base) i.reach = omega arith in
      record {
        between = rows';
        next = n;
        written = record { count = n.written.count; cells = n.written.cells; row = row ∙ rw (row_written, place, far, a, b, n.written.row, set-set); value = n.written.value };
      }

-- The items of the part from a state on, with their places in the whole text.
abbrev pub fresh_at : Reader → List ℕ → ℕ → ℕ → ℕ → Flags → List Item
fresh_at tok part base n p f = map (moved_item (put_at base)) (items tok n part p f)

module _ (tok : Reader) (part : List ℕ) (base n p : ℕ) (f : Flags) {i : Item} (one : i ≡ item_at tok part p f) where
  fresh_step : fresh_at tok part base (suc n) p f ≡ moved_item (put_at base) i ∷ cond (ends_run i) [] (fresh_at tok part base n i.position i.flags)
  fresh_step = ap (map (moved_item (put_at base))) (items-step tok n part p f one) ∙ ap (λ is. moved_item (put_at base) i ∷ is) (go (ends_run i))
    where
      go : (b : Bool) → map (moved_item (put_at base)) (cond b [] (items tok n part i.position i.flags)) ≡ cond b [] (fresh_at tok part base n i.position i.flags)
      go true = refl
      go false = refl

-- The loop stands before the next fresh item, with the rows before j passed.
pub record Seeking (tok : Reader) (e : Edit) (old : List (List ℕ)) (part : List ℕ) (base : ℕ) (f : Flags) (n c : ℕ) (rows : List (List ℕ)) (store : List ℕ) (j : ℕ) (at : Progress) (rows' : List (List ℕ)) (store' : List ℕ) : Type 0 where
  pub fresh : List Item
  pub all : (values : List ℕ)
      → fresh ++ followed e (map (item_of values) old) (cond at.ended [] (fresh_at tok part base (length part + 1 - length fresh) at.position (flags_of at.flags))) (base + at.position) (flags_of at.flags)
      ≡ followed e (map (item_of values) old) (fresh_items tok part base f) base f
  pub behind : Behind n c rows store fresh at.counts.items at.counts.cells rows' store'
  pub passed : Passed e old j (base + at.position)
  pub within : at.position ≤ length part
  pub few : at.ended ≡ false → length fresh ≤ at.position
  pub short : length (store_of fresh) ≤ at.position

module _ {tok : Reader} {e : Edit} {old : List (List ℕ)} {part : List ℕ} {base : ℕ} {n c : ℕ} {rows : List (List ℕ)} {store : List ℕ} where
  pub seeking_none : {f : Coded} → n ≤ length rows → c ≤ length store
      → Seeking tok e old part base (flags_of f) n c rows store 0 (record { position = 0; flags = f; counts = record { items = n; cells = c }; ended = false }) rows store
  seeking_none h l =
      let z : base + 0 ≡ base = omega arith in
      let y : length part + 1 - 0 ≡ length part + 1 = omega arith in
      record { fresh = []; all = λ values. rw (z, y); behind = behind_none h l; passed = passed_none; within = omega arith; few = λ _. omega arith; short = omega arith }

  module _ {f : Flags} {j : ℕ} {at : Progress} {rows' : List (List ℕ)} {store' : List ℕ} (k : Seeking tok e old part base f n c rows store j at rows' store') where
    -- Behind the item that ends the run no old row follows.
    pub seeking_end : at.ended ≡ true → {m : Matched} → m.counts ≡ at.counts → m.old ≡ length old → ToMatch tok e old part base f n c rows store m rows' store'
    unfolding followed
    seeking_end h a o = record {
      fresh = k.fresh;
      all = λ values. sym (k.all values) ∙ rw (h, o, drop-length);
      behind = rw a k.behind;
      within = omega (arith, o);
      short = rw a (omega (arith, k.behind.cells, k.short, k.within));
      left = λ l. absurd (omega (arith, o));
    }

    module _ (going : at.ended ≡ false) where
      fuel : length part + 1 - length k.fresh ≡ suc (length part - length k.fresh)
      fuel = omega (arith, k.few going, k.within)

      -- What is still to come, item by item.
      ahead : {i : Item} → i ≡ item_at tok part at.position (flags_of at.flags) → (values : List ℕ)
          → k.fresh ++ followed e (map (item_of values) old) (moved_item (put_at base) i ∷ cond (ends_run i) [] (fresh_at tok part base (length part - length k.fresh) i.position i.flags)) (base + at.position) (flags_of at.flags)
          ≡ followed e (map (item_of values) old) (fresh_items tok part base f) base f
      ahead one values = rw (going, fuel, fresh_step tok part base (length part - length k.fresh) at.position (flags_of at.flags) one) at (k.all values)

      pub seeking_match : {j' : ℕ} → Matching e old j' (base + at.position) (flags_of at.flags) → {m : Matched} → m.counts ≡ at.counts → m.old ≡ j' + 1 → ToMatch tok e old part base f n c rows store m rows' store'
      seeking_match {j'} w a o = record {
        fresh = k.fresh;
        all = λ values. sym (ahead refl values) ∙ rw (o, followed_old e (map (item_of values) old) _ _ (base + at.position) (flags_of at.flags) (w.rest values));
        behind = rw a k.behind;
        within = omega (arith, o, w.more);
        short = rw a (omega (arith, k.behind.cells, k.short, k.within));
        left = λ _. record { row = j'; next = o; behind = w.behind; few = rw a (omega (arith, w.place, k.behind.count, k.few going)); short = rw a (omega (arith, w.place, k.behind.cells, k.short)) };
      }

      pub seeking_more : {j' : ℕ} → Passed e old j' (base + at.position) → ((values : List ℕ) → old_rest e (map (item_of values) old) (base + at.position) (flags_of at.flags) ≡ None)
          → {at'' : Progress} {rows'' : List (List ℕ)} {store'' : List ℕ} → Fresh tok part base at rows' store' at'' rows'' store'' → at.counts.items < length rows' → at.counts.cells + (length part - at.position) ≤ length store'
          → Seeking tok e old part base f n c rows store j' at'' rows'' store''
      seeking_more {j'} s miss {at''} r room space =
          let x = r.next in
          let i = x.item in
          let is = k.fresh ++ moved_item (put_at base) i ∷ [] in
          let count : length is ≡ length k.fresh + 1 = length-append k.fresh (moved_item (put_at base) i ∷ []) in
          let z : length part + 1 - length is ≡ length part - length k.fresh = omega (arith, count) in
          let y : base + at''.position ≡ moved (put_at base) i.position = omega (arith, x.position) in
          let value : length (store_of is) ≡ length (store_of k.fresh) + length i.value = rw (store_behind, length-append, append-nil) in
          record {
            fresh = is;
            all = λ values. rw (append_assoc, z, y, x.ended, x.position, x.flags, ← followed-fresh e (map (item_of values) old) (moved_item (put_at base) i) _ (base + at.position) (flags_of at.flags) (miss values)) (ahead x.one values);
            behind = behind_more k.behind (behind-one r.written room (omega (arith, x.short, x.within)));
            passed = passed_on s (omega (arith, x.position, x.short));
            within = omega (arith, x.position, x.within);
            few = λ g. omega (arith, count, k.few going, x.position, x.onward (sym x.ended ∙ g));
            short = omega (arith, value, k.short, x.position, x.short);
          }
