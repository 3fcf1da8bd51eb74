-- Items written behind one another: none, one, and one lot behind another.
use mathlib.Core.Path.{◌≡◌, refl, sym, ap, ◌∙◌, subst}
use mathlib.Core.List.{List, [], ◌∷◌, ◌++◌, map, append-nil, append_assoc}
use Prim.Native.Nat.{ℕ, suc, ◌+◌, ◌-◌, ◌≤◌, ◌<◌}
use native.Mathlib.Omega.{arith}
use native.Mathlib.Numerals.{add-one}
use lib.ListN.{length, get_or, take, drop, set, length-append, length-drop, length-set, length-map, take-append-drop}
use borrow.Rule.Slice.PartMut.{put_mid}
use lib.Seq.{length-take-le, take-suc, take_all, drop-cons, take_at, drop_at, drop-drop, set_split}
use Rattle.std.proofs.lemmas.List.{map-append}
use Rattle.runs.specs.Item.{Item}
use Rattle.runs.specs.Edit.{Edit, moved, moved_item}
use Rattle.runs.specs.Record.{position_at, reach_at, start_at, length_at, row_of, rows_from, store_of, item_of}
use Rattle.runs.specs.Copied.{lay, moved_row, moved_items, Movable, Copied, Behind}
use Rattle.runs.proofs.RecordLaws.{row_count_lem, row_again}

module _ {A : Type 0} where
  lay_none : (n : ℕ) (s : List A) → s ≡ lay n [] s
  lay_none n s = sym (take-append-drop n s)

  lay-head : (n : ℕ) (v s : List A) → n ≤ length s → length (take n s ++ v) ≡ n + length v
  lay-head n v s h = omega (arith, length-append (take n s) v, length-take-le n s h)

  lay_parts : (n : ℕ) (v s : List A) → lay n v s ≡ take n s ++ v ++ drop (n + length v) s
  lay_parts n v s = rw (drop-drop, append_assoc)

  lay-lay : (n : ℕ) (v w s : List A) → n ≤ length s → lay (n + length v) w (lay n v s) ≡ lay n (v ++ w) s
  lay-lay n v w s h =
      let d = drop (n + length v) s in
      let z : n + length v + length w ≡ n + length (v ++ w) = omega (arith, length-append v w) in
      rw (lay_parts n v s, take_at (take n s ++ v) d (n + length v) (lay-head n v s h), drop_at (take n s ++ v) d (n + length v) (lay-head n v s h), drop-drop, z, lay_parts n (v ++ w) s, append_assoc, append_assoc, append_assoc)

  pub lay_long : (n : ℕ) (v s : List A) → n + length v ≤ length s → length (lay n v s) ≡ length s
  lay_long n v s h = rw (lay_parts n v s) (omega (arith, length-append (take n s ++ v) (drop (n + length v) s), lay-head n v s (omega arith), length-drop (n + length v) s))

rows_behind : (c : ℕ) (is js : List Item) → rows_from c (is ++ js) ≡ rows_from c is ++ rows_from (c + length (store_of is)) js
rows_behind c [] js = let z : c + 0 ≡ c = omega arith in rw z
rows_behind c (i ∷ is) js =
    let z : c + length i.value + length (store_of is) ≡ c + length (i.value ++ store_of is) = omega (arith, length-append i.value (store_of is)) in
    ap (λ rs. row_of c i ∷ rs) (rw (← z) (rows_behind (c + length i.value) is js))

pub store_behind : (is js : List Item) → store_of (is ++ js) ≡ store_of is ++ store_of js
store_behind [] js = refl
store_behind (i ∷ is) js = ap (λ s. i.value ++ s) (store_behind is js) ∙ sym (append_assoc i.value (store_of is) (store_of js))

module _ {n c : ℕ} {rows : List (List ℕ)} {store : List ℕ} where
  pub behind_none : n ≤ length rows → c ≤ length store → Behind n c rows store [] n c rows store
  behind_none h l = record { count = omega arith; cells = omega arith; laid = lay_none n rows; stored = lay_none c store; room = h; space = l; as_many = refl; as_long = refl }

  pub behind-one : {i : Item} {n' c' : ℕ} {rows' : List (List ℕ)} {store' : List ℕ} → Copied i n c rows store n' c' rows' store' → n < length rows → c + length i.value ≤ length store → Behind n c rows store (i ∷ []) n' c' rows' store'
  behind-one {i} k h l =
      let v : store_of (i ∷ []) ≡ i.value = append-nil i.value in
      let w : length (store_of (i ∷ [])) ≡ length i.value = ap length v in
      record {
        count = k.count;
        cells = omega (arith, k.cells, w);
        laid = k.row ∙ set_split rows n (row_of c i) h ∙ rw (drop-drop, add-one);
        stored = k.value ∙ ap (λ x. lay c x store) (sym v);
        room = omega (arith, k.count);
        space = omega (arith, k.cells);
        as_many = ap length k.row ∙ length-set rows n (row_of c i);
        as_long = ap length k.value ∙ lay_long c i.value store l;
      }

  pub behind_more : {is js : List Item} {n' c' : ℕ} {rows' : List (List ℕ)} {store' : List ℕ} {n'' c'' : ℕ} {rows'' : List (List ℕ)} {store'' : List ℕ}
      → Behind n c rows store is n' c' rows' store' → Behind n' c' rows' store' js n'' c'' rows'' store'' → Behind n c rows store (is ++ js) n'' c'' rows'' store''
  behind_more {is} {js} a b =
      let z : length (rows_from c is) ≡ length is = row_count_lem c is in
      let y : n + length (rows_from c is) ≡ n + length is = omega (arith, z) in
      record {
        count = omega (arith, a.count, b.count, length-append is js);
        cells = rw store_behind (omega (arith, a.cells, b.cells, length-append (store_of is) (store_of js)));
        laid = b.laid ∙ rw (a.laid, a.count, a.cells, rows_behind c is js, ← y) (lay-lay n (rows_from c is) (rows_from (c + length (store_of is)) js) rows (omega (arith, a.room, a.count)));
        stored = b.stored ∙ rw (a.stored, a.cells, store_behind) (lay-lay c (store_of is) (store_of js) store (omega (arith, a.space, a.cells)));
        room = omega (arith, b.room, a.as_many);
        space = omega (arith, b.space, a.as_long);
        as_many = b.as_many ∙ a.as_many;
        as_long = b.as_long ∙ a.as_long;
      }

-- The same items by another name.
pub behind-same : {n c : ℕ} {rows : List (List ℕ)} {store : List ℕ} {is js : List Item} → is ≡ js → {n' c' : ℕ} {rows' : List (List ℕ)} {store' : List ℕ} → Behind n c rows store is n' c' rows' store' → Behind n c rows store js n' c' rows' store'
behind-same {n} {c} {rows} {store} e {n'} {c'} {rows'} {store'} b = subst (λ is. Behind n c rows store is n' c' rows' store') e b

-- An old item, moved: its row differs in three places, and its value is copied as it is.
module _ (e : Edit) (old r : List ℕ) (fits : Movable e (length old) r) (eleven : length r ≡ 11) where
  pub copied_is : {n c k : ℕ} {rows : List (List ℕ)} {store : List ℕ} {p q : ℕ} {v w : List ℕ} {rows' : List (List ℕ)} → p ≡ moved e (get_or r position_at 0) → q ≡ moved e (get_or r reach_at 0)
      → rows' ≡ set rows n (moved_row r p q c) → v ≡ take (get_or r start_at 0 + get_or r length_at 0 - get_or r start_at 0) (drop (get_or r start_at 0) old) → w ≡ v → k ≡ length v
      → Copied (moved_item e (item_of old r)) n c rows store (n + 1) (c + length v) rows' (put_mid c k store w)
  copied_is {n} {c} {k} {rows} {store} {v = v} place far row from same size =
      let z : get_or r start_at 0 + get_or r length_at 0 - get_or r start_at 0 ≡ get_or r length_at 0 = omega arith in
      let y : v ≡ (item_of old r).value = rw z at from in
      record {
        count = refl;
        cells = ap (λ x. c + length x) y;
        row = row ∙ rw (place, far) (ap (λ x. set rows n (moved_row x (moved e (get_or r position_at 0)) (moved e (get_or r reach_at 0)) c)) (sym (row_again r eleven old fits.row fits.in_store)));
        value = rw (same, size, y) refl;
      }

moved-count : (e : Edit) (rs : List (List ℕ)) (values : List ℕ) → length (moved_items e rs values) ≡ length rs
moved-count e rs values = length-map (map (item_of values) rs) (moved_item e) ∙ length-map rs (item_of values)

-- A loop that copies old rows has written the first i of them.
module _ (e : Edit) (old : List (List ℕ)) (values : List ℕ) (i : ℕ) where
  abbrev this : Item
  this = moved_item e (item_of values (get_or old i []))

  abbrev moved_of : List (List ℕ) → List Item
  moved_of rs = moved_items e rs values

  moved-append : (rs ss : List (List ℕ)) → moved_of (rs ++ ss) ≡ moved_of rs ++ moved_of ss
  moved-append rs ss = ap (map (moved_item e)) (map-append (item_of values) rs ss) ∙ map-append (moved_item e) (map (item_of values) rs) (map (item_of values) ss)

  module _ {n₀ c₀ : ℕ} {rows₀ : List (List ℕ)} {store₀ : List ℕ} {n c : ℕ} {rows : List (List ℕ)} {store : List ℕ} (b : Behind n₀ c₀ rows₀ store₀ (moved_of (take i old)) n c rows store) where
    pub copying_all : length old ≤ i → Behind n₀ c₀ rows₀ store₀ (moved_of old) n c rows store
    copying_all h = behind-same (ap moved_of (take_all i old h)) b

    module _ (h : i < length old) where
      all_are : moved_of old ≡ moved_of (take i old) ++ (this ∷ moved_of (drop (suc i) old))
      all_are = ap moved_of (sym (take-append-drop i old)) ∙ rw (drop-cons old i [] h) (moved-append (take i old) (get_or old i [] ∷ drop (suc i) old))

      pub copying_room : n₀ + length old ≤ length rows₀ → n < length rows
      copying_room r = omega (arith, b.count, b.as_many, moved-count e (take i old) values, length-take-le i old (omega arith))

      pub copying_space : {m : ℕ} → c₀ + length (store_of (moved_of old)) ≤ m → c + length (item_of values (get_or old i [])).value ≤ m
      copying_space s =
          let v = (item_of values (get_or old i [])).value in
          let z : length (store_of (moved_of old)) ≡ length (store_of (moved_of (take i old))) + (length v + length (store_of (moved_of (drop (suc i) old)))) = ap (λ is. length (store_of is)) all_are ∙ rw (store_behind, length-append, length-append) in
          omega (arith, b.cells, z)

      pub copying_more : {n' c' : ℕ} {rows' : List (List ℕ)} {store' : List ℕ} → Copied this n c rows store n' c' rows' store' → n₀ + length old ≤ length rows₀ → c₀ + length (store_of (moved_of old)) ≤ length store₀
          → Behind n₀ c₀ rows₀ store₀ (moved_of (take (i + 1) old)) n' c' rows' store'
      copying_more o r s =
          let one_more : moved_of (take (i + 1) old) ≡ moved_of (take i old) ++ (this ∷ []) = rw (add-one, take-suc old i [] h) (moved-append (take i old) (get_or old i [] ∷ [])) in
          behind-same (sym one_more) (behind_more b (behind-one o (copying_room r) (omega (arith, copying_space s, b.as_long))))
