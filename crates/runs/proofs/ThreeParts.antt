-- The second half of demand 3: the items of a repaired record are kept ones, fresh ones to the first match or the run's end, and the old ones behind the match, moved.
-- What the search for an old rest finds or leaves out carries it; the rest is one induction over the fresh items and one over the kept ones.
use Rattle.std.specs.Prelude.{Option, None, Some}
use mathlib.Core.Path.{◌≡◌, refl, sym, ap, ◌∙◌, subst}
use mathlib.Core.Bool.{Bool, true, false, cond, ◌&&◌, ◌||◌, not, beq, true≢false, false≢true}
use mathlib.Core.List.{List, [], ◌∷◌, ◌++◌, map, append-nil}
use Prim.Native.Nat.{ℕ, zero, suc, ◌+◌, ◌≤◌, ◌<◌, suc-le-suc}
use native.Mathlib.Omega.{arith}
use lib.Dec.{leb, ltb, eqb, leb-zero}
use lib.ListN.{length, get_or, take, drop, length-drop}
use borrow.Author.Tests.{le-leb, eq-eqb, eqb-true, not-false}
use Rattle.reading.specs.Cells.{maybe}
use Rattle.reading.proofs.Test.{by_test, both, or_left, or_right}
use Rattle.text.specs.Limits.{max_chars}
use Rattle.lexer.specs.Flags.{Flags}
use Rattle.runs.specs.Item.{Item}
use Rattle.runs.specs.Run.{Reader}
use Rattle.runs.specs.Edit.{Edit, moved, moved_item}
use Rattle.runs.specs.Repair.{is_match, old_rest, followed, fresh_items, is_kept, repaired_from, repair_items}
use Rattle.runs.specs.Record.{Record, position_at, reach_at, item_of, pack, unpack, repair}
use Rattle.runs.specs.Request.{Request, row_fits, first_fits, record_fits, is_broken_request}
use Rattle.runs.specs.Parts.{kept, Inner, Match, ThreeParts, all_kept, no_match, first_match}
use Rattle.runs.proofs.RepairLaws.{matched}
use Rattle.runs.proofs.RecordLaws.{unpacked}

-- An inner item has one behind it; with one more item before all, it stands one further.
inner_below : {is : List Item} {n : ℕ} {i : Item} → Inner is n i → suc n < length is
inner_below {is} {n} m = omega (arith, length-drop n is, ap length m.here)

inner_down : {i : Item} {is : List Item} {n : ℕ} {x : Item} → Inner (i ∷ is) (suc n) x → Inner is n x
inner_down m = record { next = m.next; rest = m.rest; here = m.here }

inner_up : {i : Item} {is : List Item} {n : ℕ} {x : Item} → Inner is n x → Inner (i ∷ is) (suc n) x
inner_up m = record { next = m.next; rest = m.rest; here = m.here }

alike : (b : Bool) → beq b b ≡ true
alike true = refl
alike false = refl

-- What is known of a match is what it is tested for.
is_match_lem : (e : Edit) (i : Item) (p : ℕ) (f : Flags) → e.to ≤ i.position → moved e i.position ≡ p → i.flags ≡ f → is_match e i p f ≡ true
is_match_lem e i p f b h g = rw (le-leb e.to i.position b, eq-eqb (moved e i.position) p h, ← g, alike i.flags.unary_tests, alike i.flags.between, alike i.flags.type_name, alike i.flags.till_in, alike i.flags.after_dot)

-- An old item at j that a state of position p and flags f matches.
record Hit (e : Edit) (old : List Item) (p : ℕ) (f : Flags) (j : ℕ) : Type 0 where
  was : Item
  old_at : Inner old j was
  behind : e.to ≤ was.position
  position : p ≡ moved e was.position
  flags : f ≡ was.flags

record Found (e : Edit) (old : List Item) (p : ℕ) (f : Flags) (js : List Item) : Type 0 where
  place : ℕ
  hit : Hit e old p f place
  first : (k : ℕ) → Hit e old p f k → place ≤ k
  rest : js ≡ map (moved_item e) (drop (suc place) old)

-- The search finds the first such item, or there is none.
abbrev Searched : Edit → List Item → ℕ → Flags → Option (List Item) → Type 0
Searched e old p f None = (k : ℕ) → Hit e old p f k → ⊥
Searched e old p f (Some js) = Found e old p f js

module _ (e : Edit) (p : ℕ) (f : Flags) (i : Item) where
  hit_first : (old : List Item) → is_match e i p f ≡ false → Hit e (i ∷ old) p f 0 → ⊥
  hit_first old g h =
      let here : i ≡ h.was = ap (λ is. get_or is 0 i) h.old_at.here in
      true≢false (sym (is_match_lem e h.was p f h.behind (sym h.position) (sym h.flags)) ∙ ap (λ x. is_match e x p f) (sym here) ∙ g)

  module _ {old : List Item} {k : ℕ} where
    hit_down : Hit e (i ∷ old) p f (suc k) → Hit e old p f k
    hit_down h = record { was = h.was; old_at = inner_down h.old_at; behind = h.behind; position = h.position; flags = h.flags }

    hit_up : Hit e old p f k → Hit e (i ∷ old) p f (suc k)
    hit_up h = record { was = h.was; old_at = inner_up h.old_at; behind = h.behind; position = h.position; flags = h.flags }

  found_here : (j : Item) (is : List Item) → is_match e i p f ≡ true → Found e (i ∷ j ∷ is) p f (map (moved_item e) (j ∷ is))
  found_here j is h =
      let m = matched e i p f h in
      record {
        place = 0;
        hit = record { was = i; old_at = record { next = j; rest = is; here = refl }; behind = m.0; position = sym m.1; flags = sym m.2 };
        first = λ k _. omega arith;
        rest = refl;
      }

  found_later : (old : List Item) (o : Option (List Item)) → is_match e i p f ≡ false → Searched e old p f o → Searched e (i ∷ old) p f o
  found_later old None g s = go
    where
      go : (k : ℕ) → Hit e (i ∷ old) p f k → ⊥
      go zero h = hit_first old g h
      go (suc k) h = s k (hit_down h)
  found_later old (Some js) g s = record { place = suc s.place; hit = hit_up s.hit; first = go; rest = s.rest }
    where
      go : (k : ℕ) → Hit e (i ∷ old) p f k → suc s.place ≤ k
      go zero h = absurd (hit_first old g h)
      go (suc k) h = suc-le-suc (s.first k (hit_down h))

searched : (e : Edit) (old : List Item) (p : ℕ) (f : Flags) → Searched e old p f (old_rest e old p f)
unfolding old_rest
searched e [] p f = λ k h. absurd (omega (arith, inner_below h.old_at))
searched e (i ∷ []) p f = λ k h. absurd (omega (arith, inner_below h.old_at))
searched e (i ∷ j ∷ is) p f =
    by_test (Searched e (i ∷ j ∷ is) p f) (is_match e i p f) (found_here e p f i j is) (λ g. found_later e p f i (j ∷ is) (old_rest e (j ∷ is) p f) g (searched e (j ∷ is) p f))

module _ (e : Edit) (old : List Item) where
  -- What follows the item `last`, of the fresh ones read behind it.
  data Follows (last : Item) (fresh is : List Item) : Type 0 where
    to_end : ((j c : ℕ) → Match e old (last ∷ fresh) j c → ⊥) → is ≡ fresh → Follows last fresh is
    to_match : (j c : ℕ) → Match e old (last ∷ fresh) j c → ((k d : ℕ) → Match e old (last ∷ fresh) k d → c ≤ d) → ((k : ℕ) → Match e old (last ∷ fresh) k c → j ≤ k)
        → is ≡ take c fresh ++ map (moved_item e) (drop (suc j) old) → Follows last fresh is

  -- A match of the item itself, and one further on.
  module _ (last i : Item) (fresh : List Item) where
    here_hit : {j : ℕ} → Match e old (last ∷ i ∷ fresh) j 0 → Hit e old last.position last.flags j
    here_hit m =
        let same : last ≡ m.is = ap (λ is. get_or is 0 last) m.read_at.here in
        record { was = m.was; old_at = m.old_at; behind = m.behind; position = ap (λ x. x.position) same ∙ m.position; flags = ap (λ x. x.flags) same ∙ m.flags }

    hit_here : {j : ℕ} → Hit e old last.position last.flags j → Match e old (last ∷ i ∷ fresh) j 0
    hit_here h = record { was = h.was; is = last; old_at = h.old_at; read_at = record { next = i; rest = fresh; here = refl }; behind = h.behind; position = h.position; flags = h.flags }

    match_down : {j c : ℕ} → Match e old (last ∷ i ∷ fresh) j (suc c) → Match e old (i ∷ fresh) j c
    match_down m = record { was = m.was; is = m.is; old_at = m.old_at; read_at = inner_down m.read_at; behind = m.behind; position = m.position; flags = m.flags }

    match_up : {j c : ℕ} → Match e old (i ∷ fresh) j c → Match e old (last ∷ i ∷ fresh) j (suc c)
    match_up m = record { was = m.was; is = m.is; old_at = m.old_at; read_at = inner_up m.read_at; behind = m.behind; position = m.position; flags = m.flags }

    follows_more : {is : List Item} (o : Option (List Item)) → Searched e old last.position last.flags o → Follows i fresh is → Follows last (i ∷ fresh) (maybe o (i ∷ is) (λ js. js))
    follows_more None s (to_end n q) = to_end go (ap (λ is. i ∷ is) q)
      where
        go : (j c : ℕ) → Match e old (last ∷ i ∷ fresh) j c → ⊥
        go j zero m = s j (here_hit m)
        go j (suc c) m = n j c (match_down m)
    follows_more None s (to_match j c m a b q) = to_match j (suc c) (match_up m) go (λ k x. b k (match_down x)) (ap (λ is. i ∷ is) q)
      where
        go : (k d : ℕ) → Match e old (last ∷ i ∷ fresh) k d → suc c ≤ d
        go k zero x = absurd (s k (here_hit x))
        go k (suc d) x = suc-le-suc (a k d (match_down x))
    follows_more (Some js) s g = to_match s.place 0 (hit_here s.hit) (λ k d _. omega arith) (λ k x. s.first k (here_hit x)) s.rest

  follows : (last : Item) (fresh : List Item) → Follows last fresh (followed e old fresh last.position last.flags)
  unfolding followed
  follows last [] = to_end (λ j c m. absurd (omega (arith, inner_below m.read_at))) refl
  follows last (i ∷ fresh) = follows_more last i fresh (old_rest e old last.position last.flags) (searched e old _ _) (follows i fresh)

  module _ (tok : Reader) (part : List ℕ) where
    -- The items `rs` behind `last`, which is kept and has the old ones `is` behind it.
    data Behind (last : Item) (is rs : List Item) : Type 0 where
      all : kept e is ≡ is → rs ≡ is → Behind last is rs
      some_are : length (kept e is) < length is → (before : List Item) (l : Item) → last ∷ kept e is ≡ before ++ (l ∷ [])
          → (rest : List Item) → Follows l (fresh_items tok part l.position l.flags) rest → rs ≡ kept e is ++ rest → Behind last is rs

    behind : (last : Item) (is : List Item) → Behind last is (repaired_from tok e old part is last.position last.flags)
    unfolding repaired_from
    behind last [] = all refl refl
    behind last (i ∷ is) = go (is_kept e i) refl (behind i is)
      where
        go : (b : Bool) → is_kept e i ≡ b → Behind i is (repaired_from tok e old part is i.position i.flags)
            → Behind last (i ∷ is) (cond b (i ∷ repaired_from tok e old part is i.position i.flags) (followed e old (fresh_items tok part last.position last.flags) last.position last.flags))
        go true h (all k q) = all (rw h (ap (λ js. i ∷ js) k)) (ap (λ js. i ∷ js) q)
        go true h (some_are n b l s r f q) = some_are (rw h (suc-le-suc n)) (last ∷ b) l (rw h (ap (λ js. last ∷ js) s)) r f (rw h (ap (λ js. i ∷ js) q))
        go false h g = some_are (rw h (omega arith)) [] last (rw h refl) _ (follows last (fresh_items tok part last.position last.flags)) (rw h refl)

-- For every list of items whose first is kept.
module _ (tok : Reader) (e : Edit) (i : Item) (is : List Item) (part : List ℕ) (start : is_kept e i ≡ true) where
  items_three : ThreeParts tok e (i ∷ is) part (repair_items tok e (i ∷ is) part)
  items_three = go (behind e (i ∷ is) tok part i is)
    where
      go : {rs : List Item} → Behind e (i ∷ is) tok part i is rs → ThreeParts tok e (i ∷ is) part (i ∷ rs)
      go (all k q) = all_kept (rw start (ap (λ js. i ∷ js) k)) (ap (λ js. i ∷ js) q)
      go (some_are n b l s r (to_end m z) q) =
          no_match l _ (record { not_all = rw start (suc-le-suc n); before = b; ends = rw start s; read = refl }) m (rw start (ap (λ js. i ∷ js) (q ∙ ap (λ js. kept e is ++ js) z)))
      go (some_are n b l s r (to_match j c m x y z) q) =
          first_match l _ (record { not_all = rw start (suc-le-suc n); before = b; ends = rw start s; read = refl }) j c m x y (rw start (ap (λ js. i ∷ js) (q ∙ ap (λ js. kept e is ++ js) z)))

-- An accepted record has a first item, and its reach is 0.
record_three : (tok : Reader) (e : Edit) (n : ℕ) (r : Record) (part : List ℕ) → record_fits n r ≡ true → ThreeParts tok e (unpack r) part (repair_items tok e (unpack r) part)
record_three tok e n r part h = go r.rows (both (leb (length r.rows) (n + 2)) _ h).1
  where
    go : (rows : List (List ℕ)) → first_fits n (length r.store) rows ≡ true → ThreeParts tok e (map (item_of r.store) rows) part (repair_items tok e (map (item_of r.store) rows) part)
    go [] f = absurd (false≢true f)
    go (x ∷ xs) f =
        let a = row_fits n (length r.store) 0 0 x && eqb (get_or x position_at 0) 0 in
        let b = both (a && eqb (get_or x reach_at 0) 0) _ f in
        let zero-reach : get_or x reach_at 0 ≡ 0 = eqb-true _ _ (both a (eqb (get_or x reach_at 0) 0) b.0).1 in
        items_three tok e (item_of r.store x) (map (item_of r.store) xs) part (rw zero-reach (leb-zero e.from))

unpacked_pack : (is : List Item) → unpack (pack is) ≡ is
unpacked_pack is = ap (λ s. unpack (record { rows = (pack is).rows; store = s })) (sym (append-nil _)) ∙ unpacked [] is

-- For every request that is accepted.
pub three_parts : (tok : Reader) (q : Request) → is_broken_request q ≡ false → ThreeParts tok q.edit (unpack q.old) q.part (unpack (repair tok q.edit q.old q.part))
three_parts tok q h =
    let a = ltb q.edit.to q.edit.from || ltb q.old_length q.edit.to || ltb max_chars q.old_length in
    let b = or_right a (not (record_fits q.old_length q.old)) (or_left (a || not (record_fits q.old_length q.old)) _ h) in
    subst (ThreeParts tok q.edit (unpack q.old) q.part) (sym (unpacked_pack (repair_items tok q.edit (unpack q.old) q.part))) (record_three tok q.edit q.old_length q.old q.part (not-false _ b))
