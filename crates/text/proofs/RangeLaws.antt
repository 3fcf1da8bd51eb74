-- The search through a table of rising ranges, and that two tables which cover each other are one class.
use mathlib.Core.Path.{◌≡◌, refl, sym, ◌∙◌}
use mathlib.Core.Bool.{Bool, true, false, ◌&&◌, ◌||◌, false≢true}
use mathlib.Core.List.{List, [], ◌∷◌, map}
use Prim.Native.Nat.{ℕ, suc, ◌+◌, ◌≤◌, ◌<◌}
use native.Mathlib.Numerals.{add-one}
use native.Mathlib.Omega.{arith}
use lib.Dec.{leb, ltb, eqb}
use borrow.Author.Tests.{leb-true, ltb-true, le-leb, lt-leb, eqb-true, eq-eqb}
use lib.ListN.{length, get_or, drop, drop_of_length-le}
use lib.Seq.{drop-cons}
use Rattle.reading.specs.Cells.{is_one_of}
use Rattle.reading.proofs.Test.{both, either}
use Rattle.text.specs.Ranges.{only, within, among, rises, Found}

-- A character below the first of rising ranges lies in none.
below_all : (rs : List (List ℕ)) (n c : ℕ) → rises n rs ≡ true → c < n → among rs c ≡ false
unfolding rises among
below_all [] n c h l = refl
below_all (r ∷ rs) n c h l =
    let a = both (leb n (get_or r 0 0) && leb (get_or r 0 0) (get_or r 1 0)) (rises (get_or r 1 0) rs) h in
    let b = both (leb n (get_or r 0 0)) (leb (get_or r 0 0) (get_or r 1 0)) a.0 in
    let first = leb-true n (get_or r 0 0) b.0 in
    let last = leb-true (get_or r 0 0) (get_or r 1 0) b.1 in
    rw (lt-leb (get_or r 0 0) c (omega arith), below_all rs (get_or r 1 0) c a.1 (omega arith))

-- The search has passed i ranges; those left rise from `from` on.
pub record Searching (t : List (List ℕ)) (c i : ℕ) : Type 0 where
  pub inside : i ≤ length t
  pub same : among t c ≡ among (drop i t) c
  pub from : ℕ
  pub up : rises from (drop i t) ≡ true

pub search_none : {t : List (List ℕ)} {c : ℕ} → rises 0 t ≡ true → Searching t c 0
search_none h = record { inside = omega arith; same = refl; from = 0; up = h }

module _ {t : List (List ℕ)} {c i : ℕ} (s : Searching t c i) where
  pub search_end : length t ≤ i → Found t c false
  unfolding among
  search_end h = record { answer = sym (s.same ∙ rw (drop_of_length-le t h)) }

  module _ (h : i < length t) where
    opened : rises s.from (get_or t i [] ∷ drop (suc i) t) ≡ true
    opened = rw (drop-cons t i [] h) at s.up

    pub search_below : c < get_or (get_or t i []) 0 0 → Found t c false
    unfolding rises
    search_below l = record { answer = sym (s.same ∙ below_all (drop i t) (get_or (get_or t i []) 0 0) c (rw (drop-cons t i [] h) rest) l) }
      where
        rest : leb (get_or (get_or t i []) 0 0) (get_or (get_or t i []) 0 0) && leb (get_or (get_or t i []) 0 0) (get_or (get_or t i []) 1 0) && rises (get_or (get_or t i []) 1 0) (drop (suc i) t) ≡ true
        rest =
            let a = both (leb s.from (get_or (get_or t i []) 0 0) && leb (get_or (get_or t i []) 0 0) (get_or (get_or t i []) 1 0)) _ opened in
            let b = both (leb s.from (get_or (get_or t i []) 0 0)) _ a.0 in
            rw (le-leb (get_or (get_or t i []) 0 0) (get_or (get_or t i []) 0 0) (omega arith), b.1, a.1)

    module _ (l : get_or (get_or t i []) 0 0 ≤ c) where
      pub search_in : c ≤ get_or (get_or t i []) 1 0 → Found t c true
      unfolding among
      search_in g = record { answer = sym (s.same ∙ rw (drop-cons t i [] h, le-leb _ _ l, le-leb _ _ g)) }

      pub search_more : get_or (get_or t i []) 1 0 < c → Searching t c (i + 1)
      unfolding among rises
      search_more g = record {
        inside = omega arith;
        same = s.same ∙ rw (add-one, drop-cons t i [] h, le-leb _ _ l, lt-leb _ _ g);
        from = get_or (get_or t i []) 1 0;
        up = rw add-one (both (leb s.from (get_or (get_or t i []) 0 0) && leb (get_or (get_or t i []) 0 0) (get_or (get_or t i []) 1 0)) _ opened).1;
      }

-- The range lies in one range of the table.
unfoldable pub covered : List ℕ → List (List ℕ) → Bool
covered r [] = false
covered r (s ∷ ss) = (leb (get_or s 0 0) (get_or r 0 0) && leb (get_or r 1 0) (get_or s 1 0)) || covered r ss

unfoldable pub all_covered : List (List ℕ) → List (List ℕ) → Bool
all_covered [] ss = true
all_covered (r ∷ rs) ss = covered r ss && all_covered rs ss

or_left : {b : Bool} (c : Bool) → b ≡ true → b || c ≡ true
or_left c h = rw h

or_right : (b : Bool) {c : Bool} → c ≡ true → b || c ≡ true
or_right true h = refl
or_right false h = h

within-covered : (r : List ℕ) (ss : List (List ℕ)) (c : ℕ) → covered r ss ≡ true → within r c ≡ true → among ss c ≡ true
unfolding covered among
within-covered r [] c h g = absurd (false≢true h)
within-covered r (s ∷ ss) c h g =
    let k = both (leb (get_or r 0 0) c) _ g in
    let low = leb-true (get_or r 0 0) c k.0 in
    let high = leb-true c (get_or r 1 0) k.1 in
    either (leb (get_or s 0 0) (get_or r 0 0) && leb (get_or r 1 0) (get_or s 1 0)) h
    (λ e. let d = both (leb (get_or s 0 0) (get_or r 0 0)) _ e in
    let first = leb-true (get_or s 0 0) (get_or r 0 0) d.0 in
    let last = leb-true (get_or r 1 0) (get_or s 1 0) d.1 in
    or_left {b = within s c} (among ss c) (rw (le-leb (get_or s 0 0) c (omega arith), le-leb c (get_or s 1 0) (omega arith))))
    (λ e. or_right (within s c) (within-covered r ss c e g))

pub among-covered : (rs ss : List (List ℕ)) (c : ℕ) → all_covered rs ss ≡ true → among rs c ≡ true → among ss c ≡ true
unfolding all_covered among
among-covered [] ss c h g = absurd (false≢true g)
among-covered (r ∷ rs) ss c h g =
    let k = both (covered r ss) _ h in
    either (within r c) g (λ e. within-covered r ss c k.0 e) (λ e. among-covered rs ss c k.1 e)

-- Two tables that cover each other are one class.
pub same_class : {rs : List (List ℕ)} {c : ℕ} {r : Bool} → Found rs c r → (ss : List (List ℕ)) → all_covered rs ss ≡ true → all_covered ss rs ≡ true → r ≡ among ss c
same_class {rs} {c} f ss h g = f.answer ∙ go (among rs c) (among ss c) (among-covered rs ss c h) (among-covered ss rs c g)
  where
    go : (a b : Bool) → (a ≡ true → b ≡ true) → (b ≡ true → a ≡ true) → a ≡ b
    go true b f g = sym (f refl)
    go false true f g = g refl
    go false false f g = refl

-- The range meets none of the table's.
unfoldable pub apart : List ℕ → List (List ℕ) → Bool
apart r [] = true
apart r (s ∷ ss) = (ltb (get_or r 1 0) (get_or s 0 0) || ltb (get_or s 1 0) (get_or r 0 0)) && apart r ss

apart_none : (r : List ℕ) (ss : List (List ℕ)) (c : ℕ) → apart r ss ≡ true → get_or r 0 0 ≤ c → c ≤ get_or r 1 0 → among ss c ≡ false
unfolding apart among
apart_none r [] c h l g = refl
apart_none r (s ∷ ss) c h l g =
    let k = both (ltb (get_or r 1 0) (get_or s 0 0) || ltb (get_or s 1 0) (get_or r 0 0)) (apart r ss) h in
    let rest = apart_none r ss c k.1 l g in
    either (ltb (get_or r 1 0) (get_or s 0 0)) k.0
    (λ e. let z = ltb-true (get_or r 1 0) (get_or s 0 0) e in rw (lt-leb (get_or s 0 0) c (omega arith), rest))
    (λ e. let z = ltb-true (get_or s 1 0) (get_or r 0 0) e in rw (lt-leb c (get_or s 1 0) (omega arith), rest) (and_none (leb (get_or s 0 0) c)))
  where
    and_none : (a : Bool) → (a && false) || false ≡ false
    and_none true = refl
    and_none false = refl

-- What a range says of a character in it: all of it is in the class, or none.
module _ (r : List ℕ) (ss : List (List ℕ)) (c : ℕ) {b : Bool} (w : b ≡ within r c) (t : b ≡ true) where
  pub all_in : covered r ss ≡ true → true ≡ among ss c
  all_in h = sym (within-covered r ss c h (sym w ∙ t))

  pub all_out : apart r ss ≡ true → false ≡ among ss c
  all_out h =
      let k = both (leb (get_or r 0 0) c) (leb c (get_or r 1 0)) (sym w ∙ t) in
      sym (apart_none r ss c h (leb-true (get_or r 0 0) c k.0) (leb-true c (get_or r 1 0) k.1))

equal_within : (x c : ℕ) → eqb x c ≡ within (only x) c
equal_within x c = go (eqb x c) refl (within (only x) c) refl
  where
    go : (a : Bool) → eqb x c ≡ a → (b : Bool) → within (only x) c ≡ b → a ≡ b
    go true e true f = refl
    go true e false f = let k : x ≡ c = eqb-true x c e in absurd (false≢true (sym f ∙ rw (le-leb x c (omega arith), le-leb c x (omega arith))))
    go false e true f = let k = both (leb x c) (leb c x) f in let a = leb-true x c k.0 in let b = leb-true c x k.1 in sym e ∙ eq-eqb x c (omega arith)
    go false e false f = refl

-- A list of characters is a table of ranges of one.
one_of_ranges : (xs : List ℕ) (c : ℕ) → is_one_of xs c ≡ among (map only xs) c
unfolding among
one_of_ranges [] c = refl
one_of_ranges (x ∷ xs) c = ap₂ (equal_within x c) (one_of_ranges xs c)
  where
    ap₂ : {a a' b b' : Bool} → a ≡ a' → b ≡ b' → (a || b) ≡ (a' || b')
    ap₂ p q = rw (p, q)

-- A range that meets none of the list.
pub none_of : (r : List ℕ) (xs : List ℕ) (c : ℕ) {b : Bool} → b ≡ within r c → b ≡ true → apart r (map only xs) ≡ true → false ≡ is_one_of xs c
none_of r xs c w t h = all_out r (map only xs) c w t h ∙ sym (one_of_ranges xs c)

-- A table and a list that cover each other are one class.
pub same_list_lem : {rs : List (List ℕ)} {c : ℕ} {r : Bool} → Found rs c r → (xs : List ℕ) → all_covered rs (map only xs) ≡ true → all_covered (map only xs) rs ≡ true → r ≡ is_one_of xs c
same_list_lem {c = c} f xs h g = same_class f (map only xs) h g ∙ sym (one_of_ranges xs c)
