-- A lent entry list, by index: the spans of its check, and one step of replacing.
use mathlib.Core.Path.{◌≡◌, refl}
use mathlib.Core.Bool.{Bool, true, false, cond, ◌&&◌, not}
use mathlib.Core.List.{List, [], ◌∷◌, ◌++◌, map}
use Prim.Native.Nat.{ℕ, zero, suc, ◌+◌, ◌<◌, ◌≤◌}
use native.Mathlib.Omega.{arith}
use native.Mathlib.Numerals.{add-one}
use lib.Dec.{ltb, leb}
use lib.ListN.{length, get_or, drop, drop_of_length-le}
use lib.Seq.{drop-cons}
use borrow.Author.Tests.{lt-ltb, le-ltb, ltb-false}
use Rattle.reading.proofs.Test.{or_left, or_right}
use Rattle.scope.specs.Limits.{max_depth}
use Rattle.scope.specs.Entries.{Entry}
use Rattle.scope.specs.Settled.{is_repeated, settled_from}
use Rattle.scope.specs.Lent.{any_outside}
use Rattle.scope.specs.Listing.{stays, cut_after, keep}

pub map-step : {A B : Type 0} (f : A → B) (d : A) (l : List A) (i : ℕ) → i < length l → drop i (map f l) ≡ f (get_or l i d) ∷ drop (suc i) (map f l)
map-step f d [] i h = absurd (omega arith)
map-step f d (x ∷ l) zero h = refl
map-step f d (x ∷ l) (suc i) h = map-step f d l i (omega arith)

pub map-end : {A B : Type 0} (f : A → B) (l : List A) (i : ℕ) → length l ≤ i → drop i (map f l) ≡ []
map-end f [] zero h = refl
map-end f [] (suc i) h = refl
map-end f (x ∷ l) zero h = absurd (omega arith)
map-end f (x ∷ l) (suc i) h = map-end f l i (omega arith)

-- Spans.
module _ (cs : List ℕ) where
  pub inside_at : (rs : List (List ℕ)) (i : ℕ) → any_outside cs rs ≡ false → i < length rs → get_or (get_or rs i []) 2 0 + get_or (get_or rs i []) 3 0 ≤ length cs
  unfolding any_outside
  inside_at [] i e h = absurd (omega arith)
  inside_at (r ∷ rs) zero e h = ltb-false (length cs) (get_or r 2 0 + get_or r 3 0) (or_left (ltb (length cs) (get_or r 2 0 + get_or r 3 0)) (any_outside cs rs) e)
  inside_at (r ∷ rs) (suc i) e h = inside_at rs i (or_right (ltb (length cs) (get_or r 2 0 + get_or r 3 0)) (any_outside cs rs) e) (omega arith)

  module _ (rs : List (List ℕ)) (i : ℕ) where
    pub outside_end : length rs ≤ i → any_outside cs (drop i rs) ≡ false
    unfolding any_outside
    outside_end h = rw (drop_of_length-le rs h)

    module _ (h : i < length rs) where
      pub outside_here : length cs < get_or (get_or rs i []) 2 0 + get_or (get_or rs i []) 3 0 → any_outside cs (drop i rs) ≡ true
      unfolding any_outside
      outside_here l = rw (drop-cons rs i [] h, lt-ltb (length cs) (get_or (get_or rs i []) 2 0 + get_or (get_or rs i []) 3 0) l)

      pub outside_more : get_or (get_or rs i []) 2 0 + get_or (get_or rs i []) 3 0 ≤ length cs → any_outside cs (drop i rs) ≡ any_outside cs (drop (i + 1) rs)
      unfolding any_outside
      outside_more l = rw (add-one, drop-cons rs i [] h, le-ltb (length cs) (get_or (get_or rs i []) 2 0 + get_or (get_or rs i []) 3 0) l)

-- One entry: it stays or goes, and the cut behind it.
pub settled_parts : (cut : ℕ) (e : Entry) (es : List Entry) → settled_from cut (e ∷ es) ≡ keep (stays cut e es) e ++ settled_from (cut_after cut e.depth (stays cut e es)) es
unfolding settled_from stays cut_after keep
settled_parts cut e es = go (leb cut e.depth) (is_repeated e es)
  where
    go : (a b : Bool) → cond a (settled_from cut es) (cond b (settled_from (suc e.depth) es) (e ∷ settled_from (suc max_depth) es))
        ≡ cond (not a && not b) (e ∷ []) [] ++ settled_from (cond (not a && not b) (suc max_depth) (cond a cut (suc e.depth))) es
    go true b = refl
    go false true = refl
    go false false = refl
