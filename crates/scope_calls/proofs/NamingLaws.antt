-- Taking an entry out of the rows, and putting a new one behind.
use mathlib.Core.Path.{◌≡◌, refl, sym, ◌∙◌, ap}
use mathlib.Core.Bool.{Bool, true, false, cond, not}
use mathlib.Core.List.{List, [], ◌∷◌, ◌++◌, append-nil, append_assoc}
use Prim.Native.Nat.{ℕ, suc, ◌+◌, ◌<◌, ◌≤◌}
use native.Mathlib.Omega.{arith}
use native.Mathlib.Numerals.{add-one}
use lib.ListN.{length, get_or, drop, set, length-append, length-set}
use lib.Seq.{drop-set-lt, get_or-drop}
use lib.Dec.{ltb, eqb}
use mir.Val.{bool_byte}
use borrow.Author.Tests.{eq-eqb, ne_eqb, le-leb, lt-leb, le-ltb}
use Rattle.names.specs.Same.{same}
use Rattle.scope.specs.Limits.{max_name, max_depth}
use Rattle.scope.specs.Entries.{Entry}
use Rattle.scope.specs.Lent.{held, any_too_long}
use Rattle.scope.specs.Rows.{entry_at, name_length}
use Rattle.scope.specs.Listing.{cut_after, keep}
use Rattle.scope_calls.specs.Written.{Appended}
use Rattle.scope_calls.specs.Naming.{stays_beside, without, Moved}
use Rattle.scope.specs.Viewed.{no_entry}
use Rattle.scope.proofs.HeldLaws.{held-length, held_at, short_at}
use Rattle.scope.proofs.BrokenLaws.{entries_end, entry_step}
use Rattle.scope_calls.proofs.WrittenLaws.{held_snoc, set_short, behind}

-- Whether an entry stays, by the code's tests.
module _ (cut : ℕ) (e : Entry) (x : List ℕ) where
  pub beside_cut : cut ≤ e.depth → ltb e.depth cut ≡ stays_beside cut e x
  unfolding stays_beside
  beside_cut h = rw (le-ltb e.depth cut h, le-leb cut e.depth h)

  module _ (h : e.depth < cut) where
    pub beside_name : e.depth ≡ 0 → {b : Bool} → b ≡ same e.name x → not b ≡ stays_beside cut e x
    unfolding stays_beside
    beside_name z q = rw (lt-leb cut e.depth h, eq-eqb e.depth 0 z, q)

    pub beside_deep : (e.depth ≡ 0 → ⊥) → {b : Bool} → b ≡ eqb e.depth 0 → not b ≡ stays_beside cut e x
    unfolding stays_beside
    beside_deep z q = rw (q, lt-leb cut e.depth h, ne_eqb e.depth 0 z)

-- A bool as a number.
pub as_one : (b : Bool) → (bool_byte b ≡ cond b 1 0) × (bool_byte b ≤ 1)
as_one true = (refl, omega arith)
as_one false = (refl, omega arith)

-- One row moved, or not.
module _ (ss ns : List (List ℕ)) (i to : ℕ) (g : to ≤ i) (h : i < length ss) (j : i < length ns) {b : Bool} where
  pub moved_not : b ≡ false → Moved ss ns ss ns to to (i + 1) (keep b (entry_at ss ns i))
  unfolding keep
  moved_not e = rw e (record { as_many_slots = refl; as_many_names = refl; place = omega arith; reads = sym (append-nil (held to ss ns)); short = λ k l f. f l; slots_behind = refl; names_behind = refl })

  pub moved-one : name_length ss i ≤ max_name → b ≡ true → Moved ss ns (set ss to (get_or ss i [])) (set ns to (get_or ns i [])) to (to + 1) (i + 1) (keep b (entry_at ss ns i))
  unfolding keep
  moved-one l e = rw e (record {
    as_many_slots = length-set ss to _;
    as_many_names = length-set ns to _;
    place = refl;
    reads = rw add-one (held_snoc to ss ns (get_or ss i []) (get_or ns i []) (omega arith) (omega arith));
    short = set_short ss to (get_or ss i []) (omega arith) l;
    slots_behind = drop-set-lt (i + 1) ss to _ (omega arith);
    names_behind = drop-set-lt (i + 1) ns to _ (omega arith);
  })

-- One step of the loops.
module _ (es : List Entry) (i : ℕ) (x : List ℕ) (cut : ℕ) where
  pub without_end : length es ≤ i → without cut x (drop i es) ≡ []
  unfolding without
  without_end h = rw (entries_end es i h)

  module _ {e : Entry} (at : e ≡ get_or es i no_entry) (h : i < length es) {b : Bool} (q : b ≡ stays_beside cut e x) {c : ℕ} (r : c ≡ cut_after cut e.depth b) where
    pub without_step : without cut x (drop i es) ≡ keep b e ++ without c x (drop (i + 1) es)
    unfolding without
    without_step = rw (r, q, entry_step es i at h)

    pub left_step : length (without cut x (drop i es)) ≡ cond b 1 0 + length (without c x (drop (i + 1) es))
    unfolding keep
    left_step = rw (without_step, length-append) (ap (λ z. z + length (without c x (drop (i + 1) es))) (one b))
      where
        one : (a : Bool) → length (cond a (e ∷ []) []) ≡ cond a 1 0
        one true = refl
        one false = refl

-- A row that is as it was.
row : (i : ℕ) (l m : List (List ℕ)) → drop i l ≡ drop i m → get_or l i [] ≡ get_or m i []
row i l m e = let z : i + 0 ≡ i = omega arith in rw (← z, ← get_or-drop i l 0 [], ← get_or-drop i m 0 [], e)

pub record Going (ss₀ ns₀ ss ns : List (List ℕ)) (from to count cut i : ℕ) (x : List ℕ) : Type 0 where
  pub inside : i ≤ count
  pub low : to ≤ i
  pub done : List Entry
  pub moved : Moved ss₀ ns₀ ss ns from to i done
  pub rest : done ++ without cut x (drop i (held count ss₀ ns₀)) ≡ without (suc max_depth) x (drop from (held count ss₀ ns₀))

pub going_none : (ss ns : List (List ℕ)) (from count : ℕ) (x : List ℕ) → from ≤ count → Going ss ns ss ns from from count (suc max_depth) from x
going_none ss ns from count x h = record { inside = h; low = omega arith; done = []; moved = record { as_many_slots = refl; as_many_names = refl; place = omega arith; reads = sym (append-nil (held from ss ns)); short = λ k l f. f l; slots_behind = refl; names_behind = refl }; rest = refl }

module _ {ss₀ ns₀ ss ns : List (List ℕ)} {from to count cut i : ℕ} {x : List ℕ} (g : Going ss₀ ns₀ ss ns from to count cut i x) (h : count ≤ length ss₀) (j : count ≤ length ns₀) where
  pub going_all : count ≤ i → Moved ss₀ ns₀ ss ns from to count (without (suc max_depth) x (drop from (held count ss₀ ns₀)))
  going_all l = let z : i ≡ count = omega arith in rw (← g.rest, without_end (held count ss₀ ns₀) i x cut (rw (held-length count ss₀ ns₀ h j) l), append-nil) (rw z at g.moved)

  pub going_short : any_too_long count ss₀ ≡ false → i < count → get_or (get_or ss i []) 3 0 ≤ max_name
  going_short f l = rw (row i ss ss₀ g.moved.slots_behind) (short_at count ss₀ i f h l)

  going_more : {b : Bool} {c to' : ℕ} {ss' ns' : List (List ℕ)} → i < count → b ≡ stays_beside cut (entry_at ss ns i) x → c ≡ cut_after cut (entry_at ss ns i).depth b
      → Moved ss ns ss' ns' to to' (i + 1) (keep b (entry_at ss ns i)) → to' ≤ i + 1 → Going ss₀ ns₀ ss' ns' from to' count c (i + 1) x
  going_more {b} {c} {to'} {ss'} {ns'} l q r m up' =
      let up : i ≤ i + 1 = omega arith in
      let a = row i ss ss₀ g.moved.slots_behind in
      let d = row i ns ns₀ g.moved.names_behind in
      let q₁ : b ≡ stays_beside cut (entry_at ss₀ ns₀ i) x = rw (a, d) at q in
      let r₁ : c ≡ cut_after cut (entry_at ss₀ ns₀ i).depth b = rw a at r in
      let m₁ : held to' ss' ns' ≡ held to ss ns ++ keep b (entry_at ss₀ ns₀ i) = rw (a, d) at m.reads in
      let n₁ : to' ≡ to + length (keep b (entry_at ss₀ ns₀ i)) = rw (a, d) at m.place in
      record {
        inside = omega arith;
        low = up';
        done = g.done ++ keep b (entry_at ss₀ ns₀ i);
        moved = record {
          as_many_slots = m.as_many_slots ∙ g.moved.as_many_slots;
          as_many_names = m.as_many_names ∙ g.moved.as_many_names;
          place = rw length-append (omega (arith, n₁, g.moved.place));
          reads = m₁ ∙ rw g.moved.reads (append_assoc (held from ss₀ ns₀) g.done _);
          short = λ k y f. m.short k y (λ z. g.moved.short k z f);
          slots_behind = m.slots_behind ∙ behind ss ss₀ up g.moved.slots_behind;
          names_behind = m.names_behind ∙ behind ns ns₀ up g.moved.names_behind;
        };
        rest = append_assoc g.done _ _ ∙ sym (ap (λ z. g.done ++ z) (without_step (held count ss₀ ns₀) i x cut (sym (held_at i count ss₀ ns₀ l h j)) (rw (held-length count ss₀ ns₀ h j) l) q₁ r₁)) ∙ g.rest;
      }

  -- The entry at i, as it is read.
  module _ (l : i < count) {e : Entry} (is : e ≡ entry_at ss ns i) {b : Bool} (q : b ≡ stays_beside cut e x) {c : ℕ} (r : c ≡ cut_after cut e.depth b) where
    pub going_not : b ≡ false → Going ss₀ ns₀ ss ns from to count c (i + 1) x
    going_not t =
        let m = g.moved in
        going_more l (rw is at q) (rw is at r) (moved_not ss ns i to g.low (omega (arith, m.as_many_slots)) (omega (arith, m.as_many_names)) t) (omega (arith, g.low))

    pub going_moved : any_too_long count ss₀ ≡ false → b ≡ true → Going ss₀ ns₀ (set ss to (get_or ss i [])) (set ns to (get_or ns i [])) from (to + 1) count c (i + 1) x
    going_moved f t =
        let m = g.moved in
        going_more l (rw is at q) (rw is at r) (moved-one ss ns i to g.low (omega (arith, m.as_many_slots)) (omega (arith, m.as_many_names)) (going_short f l) t) (omega (arith, g.low))

-- More written behind what was moved.
pub moved_appended : {ss ns ss' ns' ss'' ns'' : List (List ℕ)} {a b c back back' : ℕ} {es fs : List Entry} → Moved ss ns ss' ns' a b back es → Appended ss' ns' ss'' ns'' b c fs → back ≤ back' → c ≤ back' → Moved ss ns ss'' ns'' a c back' (es ++ fs)
moved_appended {ss} {ns} {ss'} {ns'} {ss''} {ns''} {a} {es = es} {fs} p q h k = record {
  as_many_slots = q.as_many_slots ∙ p.as_many_slots;
  as_many_names = q.as_many_names ∙ p.as_many_names;
  place = rw length-append (omega (arith, q.place, p.place));
  reads = q.reads ∙ rw p.reads (append_assoc (held a ss ns) es fs);
  short = λ i l f. q.short i l (λ m. p.short i m f);
  slots_behind = behind ss'' ss' k q.slots_behind ∙ behind ss' ss h p.slots_behind;
  names_behind = behind ns'' ns' k q.names_behind ∙ behind ns' ns h p.names_behind;
}
