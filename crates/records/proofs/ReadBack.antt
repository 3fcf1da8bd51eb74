-- What was written reads back as the same items, and rows of items, once read, are written as the same rows: what a call copied stands in the front (`copied-taken`), and a stored item and its row undo each other.
use mathlib.Core.Path.{◌≡◌, refl, sym, ap, ◌∙◌, subst}
use mathlib.Core.Bool.{Bool, true, false, cond, false≢true}
use mathlib.Core.List.{List, [], ◌∷◌, map}
use Prim.Native.Nat.{ℕ, suc}
use lib.Dec.{eqb, ltb}
use lib.ListN.{length, take}
use lib.Seq.{take-append_seam}
use Rattle.std.specs.Prelude.{Ok}
use Rattle.reading.specs.Slices.{front}
use Rattle.text.specs.Refusals.{short_slice}
use Rattle.records.specs.declared.stored.Stored.{Stored}
use Rattle.records.specs.Stored.{stored_of, row_from}
use Rattle.records.specs.Items.{Copies}
use Rattle.records.proofs.StoredLaws.{all_back}

module _ {A B : Type 0} (h : A → B) where
  pub length-map : (xs : List A) → length (map h xs) ≡ length xs
  length-map [] = refl
  length-map (x ∷ xs) = ap suc (length-map xs)

  -- A call that was not refused.
  copied-front : (xs : List A) (ys : List B) {zs : List B} → Copies h xs ys (Ok tt) zs → zs ≡ front (map h xs) ys
  copied-front xs ys c = c.left ∙ go (ltb (length ys) (length xs)) c.answer
    where
      go : (b : Bool) → 0 ≡ cond b short_slice 0 → cond b ys (front (map h xs) ys) ≡ front (map h xs) ys
      go true e = absurd (false≢true (ap (λ (r : ℕ). eqb r short_slice) e))
      go false e = refl

  pub copied-taken : (xs : List A) {ys zs : List B} → Copies h xs ys (Ok tt) zs → take (length xs) zs ≡ map h xs
  copied-taken xs {ys} c = ap (take (length xs)) (copied-front xs ys c) ∙ ap (λ (n : ℕ). take n (front (map h xs) ys)) (sym (length-map xs)) ∙ take-append_seam (map h xs) _

module _ {A B : Type 0} (f : A → B) (g : B → A) (xs : List A) (back : map g (map f xs) ≡ xs) where
  pub copied_back : {ys zs : List B} {us vs : List A} → Copies f xs ys (Ok tt) zs → Copies g (take (length xs) zs) us (Ok tt) vs → take (length xs) vs ≡ xs
  copied_back {us = us} {vs} there again =
      let given = subst (λ (bs : List B). Copies g bs us (Ok tt) vs) (copied-taken f xs there) again in
      ap (λ (n : ℕ). take n vs) (sym (length-map f xs)) ∙ copied-taken g (map f xs) given ∙ back

-- Any items, written and read.
pub items_back : (is : List Stored) {ys rows : List (List ℕ)} {us vs : List Stored} → Copies row_from is ys (Ok tt) rows → Copies stored_of (take (length is) rows) us (Ok tt) vs → take (length is) vs ≡ is
items_back is = copied_back row_from stored_of is (all_back is)
