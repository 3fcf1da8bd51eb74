-- Writing one behind the other: nothing, nothing more for want of room, one value, and part behind part.
use mathlib.Core.Path.{◌≡◌, refl, sym, ap, ◌∙◌}
use mathlib.Core.List.{List, [], ◌∷◌, ◌++◌, append-nil}
use Prim.Native.Nat.{ℕ, zero, suc, ◌+◌, ◌-◌, ◌≤◌, ◌<◌, min}
use native.Mathlib.Nat.{not-suc-le-zero, le_of_suc-le-suc, suc-add}
use native.Mathlib.Omega.{arith}
use lib.ListN.{length, set, take, drop, replicate, length-append, length-take, length-drop, length-replicate, drop_of_length-le}
use lib.Seq.{take_all}
use borrow.Rule.Slice.PartMut.{put_mid}
use Rattle.reading.proofs.Test.{by_order}
use Rattle.cases.specs.Laid.{laid, Lays}

module _ {A : Type 0} where
  length-laid : (k : ℕ) (v o : List A) → length (laid k v o) ≡ length o
  unfolding laid
  length-laid k v [] = refl
  length-laid zero [] (x ∷ o) = refl
  length-laid zero (y ∷ v) (x ∷ o) = omega (arith, length-laid zero v o)
  length-laid (suc k) v (x ∷ o) = omega (arith, length-laid k v o)

  laid_none : (k : ℕ) (o : List A) → laid k [] o ≡ o
  unfolding laid
  laid_none k [] = refl
  laid_none zero (x ∷ o) = refl
  laid_none (suc k) (x ∷ o) = ap (λ (t : List A). x ∷ t) (laid_none k o)

  laid_full : (k : ℕ) (v o : List A) → length o ≤ k → laid k v o ≡ o
  unfolding laid
  laid_full k v [] h = refl
  laid_full zero v (x ∷ o) h = absurd (not-suc-le-zero h)
  laid_full (suc k) v (x ∷ o) h = ap (λ (t : List A). x ∷ t) (laid_full k v o (le_of_suc-le-suc h))

  laid_one : (k : ℕ) (y : A) (o : List A) → set o k y ≡ laid k (y ∷ []) o
  unfolding laid
  laid_one k y [] = refl
  laid_one zero y (x ∷ o) = ap (λ (t : List A). y ∷ t) (sym (laid_none zero o))
  laid_one (suc k) y (x ∷ o) = ap (λ (t : List A). x ∷ t) (laid_one k y o)

  laid-behind : (k : ℕ) (v w o : List A) → laid (k + length v) w (laid k v o) ≡ laid k (v ++ w) o
  unfolding laid
  laid-behind k v w [] = refl
  laid-behind zero [] w (x ∷ o) = refl
  laid-behind zero (y ∷ v) w (x ∷ o) =
      let n : 0 + suc (length v) ≡ suc (0 + length v) = omega arith in
      rw n (ap (λ (t : List A). y ∷ t) (laid-behind zero v w o))
  laid-behind (suc k) v w (x ∷ o) = rw suc-add (ap (λ (t : List A). x ∷ t) (laid-behind k v w o))

  -- A place behind the end is as good as the end.
  laid_min : (n : ℕ) (w o : List A) → laid (min n (length o)) w o ≡ laid n w o
  laid_min n w o = by_order n (length o)
      (λ h. let e : min n (length o) ≡ n = omega arith in rw e)
      (λ h. laid_full (min n (length o)) w o (omega arith) ∙ sym (laid_full n w o h))

  -- What is read from the front of an output that was laid from its beginning.
  take-laid : (v o : List A) → take (min (length v) (length o)) (laid 0 v o) ≡ take (length o) v
  unfolding laid
  take-laid v [] = let z : min (length v) 0 ≡ 0 = omega arith in rw z
  take-laid [] (x ∷ o) = let z : min 0 (suc (length o)) ≡ 0 = omega arith in rw z
  take-laid (y ∷ v) (x ∷ o) =
      let z : min (suc (length v)) (suc (length o)) ≡ suc (min (length v) (length o)) = omega arith in
      rw z (ap (λ (t : List A). y ∷ t) (take-laid v o))

  pub taken : {o v : List A} {r : ℕ} {o' : List A} → Lays o 0 v r o' → take r o' ≡ take (length o) v
  taken {o} {v} {r} {o'} l =
      let e : r ≡ min (length v) (length o) = omega (arith, l.end) in
      rw (e, l.left) (take-laid v o)

  -- A writer that is lent the rest of an output lays from where that begins.
  laid_at : (k : ℕ) (v o : List A) → k ≤ length o → take k o ++ laid 0 v (drop k o) ≡ laid k v o
  unfolding laid
  laid_at zero v o h = refl
  laid_at (suc k) v [] h = absurd (not-suc-le-zero h)
  laid_at (suc k) v (x ∷ o) h = ap (λ (t : List A). x ∷ t) (laid_at k v o (le_of_suc-le-suc h))

  pub lays_rest : (o : List A) (k : ℕ) → k ≤ length o → {v : List A} {n : ℕ} {o' : List A} → Lays (take (length o - k) (drop k o)) 0 v n o' → Lays o k v (k + n) (put_mid k (length o - k) o o')
  lays_rest o k h {v} {n} {o'} l =
      let d : take (length o - k) (drop k o) ≡ drop k o = take_all (length o - k) (drop k o) (omega (arith, length-drop k o)) in
      let z : drop (length o - k) (drop k o) ≡ [] = drop_of_length-le (drop k o) (omega (arith, length-drop k o)) in
      let w : o' ≡ laid 0 v (drop k o) = l.left ∙ ap (laid 0 v) d in
      record {
        end = omega (arith, l.end, ap length d, length-drop k o);
        left = rw (z, append-nil, w) (laid_at k v o h);
      }

  -- The same value so often.
  laid_same : (t : ℕ) (y : A) (o : List A) → replicate (min (length o) t) y ++ drop (min (length o) t) o ≡ laid 0 (replicate t y) o
  unfolding laid
  laid_same t y [] = let z : min 0 t ≡ 0 = omega arith in rw z
  laid_same zero y (x ∷ o) = let z : min (suc (length o)) 0 ≡ 0 = omega arith in rw z
  laid_same (suc t) y (x ∷ o) = let z : min (suc (length o)) (suc t) ≡ suc (min (length o) t) = omega arith in rw z (ap (λ (r : List A). y ∷ r) (laid_same t y o))

  pub lays_same : (o : List A) (t : ℕ) (y : A) {n : ℕ} → n ≡ min (length o) t → {f : List A} → f ≡ replicate (length (take n o)) y → Lays o 0 (replicate t y) n (f ++ drop n o)
  lays_same o t y {n} e {f} g =
      let h : length (take n o) ≡ min (length o) t = omega (arith, e, length-take n o) in
      record {
        end = omega (arith, e, length-replicate t y);
        left = rw (g, h, e) (laid_same t y o);
      }

  -- Values laid over as many others are all that is there.
  laid_all : (v o : List A) → length v ≡ length o → laid 0 v o ≡ v
  unfolding laid
  laid_all [] [] e = refl
  laid_all [] (x ∷ o) e = absurd (omega arith)
  laid_all (y ∷ v) [] e = absurd (omega arith)
  laid_all (y ∷ v) (x ∷ o) e = ap (λ (t : List A). y ∷ t) (laid_all v o (omega arith))

  pub laid_over : {o v : List A} {r : ℕ} {o' : List A} → length v ≡ length o → Lays o 0 v r o' → o' ≡ v
  laid_over {o} {v} e l = l.left ∙ laid_all v o e

  -- One value stored.
  pub lays_one : (o : List A) (k : ℕ) (y : A) → k < length o → Lays o k (y ∷ []) (k + 1) (set o k y)
  lays_one o k y h = record { end = omega arith; left = laid_one k y o }

  pub lays_none : (o : List A) (k : ℕ) → k ≤ length o → Lays o k [] k o
  lays_none o k h = record { end = omega arith; left = sym (laid_none k o) }

-- A loop that lays the values v₀ over o₀ from s on: at the place k of o it still has v to lay.
pub record Still {A : Type 0} (o₀ : List A) (s : ℕ) (v₀ o : List A) (k : ℕ) (v : List A) : Type 0 where
  pub same : length o ≡ length o₀
  pub fits : k ≤ length o
  pub end : min (s + length v₀) (length o₀) ≡ min (k + length v) (length o)
  pub left : laid s v₀ o₀ ≡ laid k v o

module _ {A : Type 0} where
  pub still_all : {o : List A} {s : ℕ} (v : List A) → s ≤ length o → Still o s v o s v
  still_all v h = record { same = refl; fits = h; end = refl; left = refl }

  pub still_more : {o₀ : List A} {s : ℕ} {v₀ o : List A} {k : ℕ} {v w : List A} → Still o₀ s v₀ o k (v ++ w) → {r : ℕ} {o' : List A} → Lays o k v r o' → Still o₀ s v₀ o' r w
  still_more {o₀} {s} {v₀} {o} {k} {v} {w} b {r} {o'} l =
      let n : length o' ≡ length o = ap length l.left ∙ length-laid k v o in
      let e : r ≡ min (k + length v) (length o') = omega (arith, n, l.end) in
      record {
        same = n ∙ b.same;
        fits = omega arith;
        end = omega (arith, n, l.end, b.end, length-append v w);
        left = b.left ∙ sym (laid-behind k v w o) ∙ ap (laid (k + length v) w) (sym l.left) ∙ sym (laid_min (k + length v) w o') ∙ ap (λ m. laid m w o') (sym e);
      }

  pub still_none : {o₀ : List A} {s : ℕ} {v₀ o : List A} {k : ℕ} → Still o₀ s v₀ o k [] → Lays o₀ s v₀ k o
  still_none {o₀} {s} {v₀} {o} {k} b = record { end = omega (arith, b.end, b.fits); left = sym (b.left ∙ laid_none k o) }
