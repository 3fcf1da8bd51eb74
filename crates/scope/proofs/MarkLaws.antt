-- Marks: names that are the same have one mark, so a name whose mark is free stands nowhere else.
use mathlib.Core.Path.{◌≡◌, refl, sym, ◌∙◌, ap}
use mathlib.Core.Bool.{Bool, true, false, ◌&&◌, ◌||◌, not, cond, true≢false, false≢true}
use mathlib.Core.List.{List, [], ◌∷◌}
use Prim.Native.Nat.{ℕ, zero, suc, ◌+◌, ◌-◌, ◌*◌, ◌%◌, ◌<◌, ◌≤◌}
use native.Mathlib.Omega.{arith}
use native.Mathlib.Numerals.{add-one}
use lib.Dec.{ltb, eqb}
use lib.ListN.{length, get_or, set, drop, drop_of_length-le, length-set}
use lib.Seq.{drop-cons, get_or-set_same}
use borrow.Author.Tests.{eqb-true}
use Rattle.names.specs.Same.{same}
use Rattle.scope.specs.Mark.{mark_from, mark_of}
use Rattle.scope.specs.Entries.{Entry}
use Rattle.scope.specs.Settled.{is_repeated}
use Rattle.scope.specs.Broken.{any_repeated}
use Rattle.scope.specs.Viewed.{no_entry}
use Rattle.scope.proofs.BrokenLaws.{entry_step}

-- The mark of a name, cell by cell.
module _ (a : List ℕ) (i m : ℕ) where
  pub mark_end : length a ≤ i → mark_from m (drop i a) ≡ m
  unfolding mark_from
  mark_end g = rw (drop_of_length-le a g)

  pub mark_step : i < length a → mark_from m (drop i a) ≡ mark_from ((31 * m + get_or a i 0 % 8192) % 8192) (drop (i + 1) a)
  unfolding mark_from
  mark_step g = rw (add-one, drop-cons a i 0 g)

same_mark : (m : ℕ) (x y : List ℕ) → same x y ≡ true → mark_from m x ≡ mark_from m y
unfolding same mark_from
same_mark m [] [] h = refl
same_mark m [] (b ∷ y) h = absurd (false≢true h)
same_mark m (a ∷ x) [] h = absurd (false≢true h)
same_mark m (a ∷ x) (b ∷ y) h = go (eqb a b) refl h (same_mark ((31 * m + b % 8192) % 8192) x y)
  where
    go : (t : Bool) → eqb a b ≡ t → t && same x y ≡ true → (same x y ≡ true → mark_from ((31 * m + b % 8192) % 8192) x ≡ mark_from ((31 * m + b % 8192) % 8192) y)
        → mark_from ((31 * m + a % 8192) % 8192) x ≡ mark_from ((31 * m + b % 8192) % 8192) y
    go true e k rest = rw (eqb-true a b e) (rest k)
    go false e k rest = absurd (false≢true k)

-- Each of the names has left its mark.
unfoldable pub Marked : List Bool → List Entry → Type 0
Marked t [] = Unit {0}
Marked t (e ∷ es) = (get_or t (mark_of e.name) false ≡ true) × Marked t es

still : (t : List Bool) (m k : ℕ) → get_or t k false ≡ true → get_or (set t m true) k false ≡ true
still [] m k h = h
still (b ∷ t) zero zero h = refl
still (b ∷ t) zero (suc k) h = h
still (b ∷ t) (suc m) zero h = h
still (b ∷ t) (suc m) (suc k) h = still t m k h

still_marked : (t : List Bool) (m : ℕ) (es : List Entry) → Marked t es → Marked (set t m true) es
unfolding Marked
still_marked t m [] h = tt
still_marked t m (e ∷ es) h = (still t m (mark_of e.name) h.0, still_marked t m es h.1)

-- Where the mark is free, the name is not there again.
unmarked : (t : List Bool) (e : Entry) (es : List Entry) → Marked t es → get_or t (mark_of e.name) false ≡ false → is_repeated e es ≡ false
unfolding Marked is_repeated
unmarked t e [] h f = refl
unmarked t e (x ∷ es) h f = go (not (eqb x.context e.context) || ltb x.depth e.depth) (eqb x.depth e.depth) (same x.name e.name) refl (unmarked t e es h.1 f)
  where
    go : (b d s : Bool) → same x.name e.name ≡ s → is_repeated e es ≡ false → cond b false ((d && s) || is_repeated e es) ≡ false
    go true d s q r = refl
    go false false s q r = r
    go false true false q r = r
    go false true true q r = absurd (true≢false (sym h.0 ∙ ap (λ k. get_or t k false) (same_mark 0 x.name e.name q) ∙ f))

-- A name that stands twice behind some entries stands twice in all.
repeated_below : (i : ℕ) (es : List Entry) → any_repeated (drop i es) ≡ true → any_repeated es ≡ true
unfolding any_repeated
repeated_below zero es h = h
repeated_below (suc i) [] h = h
repeated_below (suc i) (e ∷ es) h = rw (repeated_below i es h) (or_true (is_repeated e es))
  where
    or_true : (b : Bool) → b || true ≡ true
    or_true true = refl
    or_true false = refl

-- The entries from some place on: no name stands twice among them, and each has left its mark.
pub record Passed (t : List Bool) (es : List Entry) : Type 0 where
  pub size : length t ≡ 8192
  pub none : any_repeated es ≡ false
  pub marked : Marked t es

pub passed_start : (t : List Bool) (es : List Entry) (i : ℕ) → length t ≡ 8192 → length es ≤ i → Passed t (drop i es)
unfolding any_repeated Marked
passed_start t es i e h = rw (drop_of_length-le es h) (record { size = e; none = refl; marked = tt })

-- One entry more, with the mark m of its name: whether the name stands again is asked only where the mark is taken.
passed_one : (t : List Bool) (e : Entry) (es : List Entry) (p : Passed t es) (m : ℕ) → m ≡ mark_of e.name → m < 8192 → (get_or t m false ≡ true → is_repeated e es ≡ false) → Passed (set t m true) (e ∷ es)
unfolding any_repeated Marked
passed_one t e es p m q l f =
    let z : m < length t = rw p.size l in
    record {
      size = length-set t m true ∙ p.size;
      none = rw (alone (get_or t m false) refl) p.none;
      marked = (ap (λ k. get_or (set t m true) k false) (sym q) ∙ get_or-set_same t m true false z, still_marked t m es p.marked);
    }
  where
    alone : (a : Bool) → get_or t m false ≡ a → is_repeated e es ≡ false
    alone true z = f z
    alone false z = unmarked t e es p.marked (ap (λ k. get_or t k false) (sym q) ∙ z)

-- The entry before i.
module _ (es : List Entry) (i : ℕ) {e : Entry} (at : e ≡ get_or es (i - 1) no_entry) (z : 0 < i) (h : i ≤ length es) where
  before : drop (i - 1) es ≡ e ∷ drop i es
  before = let q : i - 1 + 1 ≡ i = omega arith in rw q at (entry_step es (i - 1) at (omega arith))

  pub passed_twice : is_repeated e (drop (i - 1 + 1) es) ≡ true → any_repeated es ≡ true
  unfolding any_repeated
  passed_twice r =
      let q : i - 1 + 1 ≡ i = omega arith in
      repeated_below (i - 1) es (rw (before, rw q at r))

  pub passed_more : {t : List Bool} (m : ℕ) → Passed t (drop i es) → m ≡ mark_of e.name → m < 8192 → (get_or t m false ≡ true → is_repeated e (drop (i - 1 + 1) es) ≡ false) → Passed (set t m true) (drop (i - 1) es)
  passed_more {t} m p k l f =
      let q : i - 1 + 1 ≡ i = omega arith in
      rw before (passed_one t e (drop i es) p m k l (rw q at f))
