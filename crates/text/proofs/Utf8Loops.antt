-- The loops over sequences: the characters so far, with what the rest gives, are what all bytes give.
use Rattle.std.specs.Prelude.{None, Some, Ok, Err}
use mathlib.Core.Path.{◌≡◌, refl, sym, ap, ◌∙◌, subst}
use mathlib.Core.List.{List, [], ◌∷◌, ◌++◌, append-nil}
use Prim.Native.Nat.{ℕ, zero, suc, ◌+◌, ◌-◌, ◌≤◌, ◌<◌}
use native.Mathlib.Nat.{not-suc-le-zero}
use native.Mathlib.Omega.{arith}
use lib.ListN.{length, take, drop, set, length-append, length-drop, length-set}
use lib.Seq.{take-length}
use Rattle.reading.specs.Slices.{front}
use Rattle.reading.proofs.Front.{front_snoc}
use Rattle.reading.proofs.Test.{by_order}
use Rattle.text.specs.Utf8.{sequence, Decoded, chars, bad_at, with_char, with_chars, decoded_from, decoded}
use Rattle.text.specs.Opening.{count_of, HasRoom, written_of}

-- Bytes of a sequence already decoded are passed over.
skipped : (m p : ℕ) (bs : List ℕ) → decoded_from m p bs ≡ decoded_from 0 (p + m) (drop m bs)
unfolding decoded_from
skipped zero p [] = refl
skipped zero p (b ∷ bs) = let e : p + 0 ≡ p = omega arith in rw e
skipped (suc m) p [] = refl
skipped (suc m) p (b ∷ bs) = let e : suc p + m ≡ p + suc m = omega arith in skipped m (suc p) bs ∙ rw e

-- One more character, or the end of the reading.
decoded_char : (bs : List ℕ) (p c k : ℕ) → 1 ≤ k → Some (c, k) ≡ sequence bs → decoded_from 0 p bs ≡ with_char c (decoded_from 0 (p + k) (drop k bs))
unfolding decoded_from sequence
decoded_char [] p c k l e = cc
decoded_char (b ∷ bs) p c zero l e = absurd (not-suc-le-zero l)
decoded_char (b ∷ bs) p c (suc k) l e = let q : suc p + k ≡ p + suc k = omega arith in let z : suc k - 1 ≡ k = omega arith in rw (← e, z) (ap (with_char c) (skipped k (suc p) bs ∙ rw q))

decoded_bad : (bs : List ℕ) (p : ℕ) → 0 < length bs → None ≡ sequence bs → decoded_from 0 p bs ≡ bad_at p
unfolding decoded_from
decoded_bad [] p h e = absurd (omega arith)
decoded_bad (b ∷ bs) p h e = rw (← e)

-- A count that is the place of a bad sequence is that of bytes that are not well-formed.
bad_at_lem : (d : Decoded) (p : ℕ) → Err p ≡ count_of d → d ≡ bad_at p
bad_at_lem (chars cs) p e = cc
bad_at_lem (bad_at q) p e = cc

decoded_end : (bs : List ℕ) (p : ℕ) → length bs ≤ 0 → decoded_from 0 p bs ≡ chars []
unfolding decoded_from
decoded_end [] p h = refl
decoded_end (b ∷ bs) p h = absurd (not-suc-le-zero h)

with_snoc : (cs : List ℕ) (c : ℕ) (d : Decoded) → with_chars cs (with_char c d) ≡ with_chars (cs ++ c ∷ []) d
with_snoc [] c d = refl
with_snoc (x ∷ cs) c d = ap (with_char x) (with_snoc cs c d)

with_chars_lem : (cs ds : List ℕ) → with_chars cs (chars ds) ≡ chars (cs ++ ds)
with_chars_lem [] ds = refl
with_chars_lem (x ∷ cs) ds = ap (with_char x) (with_chars_lem cs ds)

with_bad : (cs : List ℕ) (p : ℕ) → with_chars cs (bad_at p) ≡ bad_at p
with_bad [] p = refl
with_bad (x ∷ cs) p = ap (with_char x) (with_bad cs p)

-- Of the bytes t these are left, and the n characters before them are cs.
pub record Going (t rest : List ℕ) (n : ℕ) : Type 0 where
  pub place : ℕ
  pub left : place + length rest ≡ length t
  pub cs : List ℕ
  pub count : n ≡ length cs
  pub few : n ≤ place
  pub so : decoded t ≡ with_chars cs (decoded_from 0 place rest)

pub going_none : (t : List ℕ) → Going t t 0
going_none t = record { place = 0; left = omega arith; cs = []; count = refl; few = omega arith; so = refl }

module _ {t rest : List ℕ} {n : ℕ} (g : Going t rest n) where
  pub going_more : {c k : ℕ} → (1 ≤ k) × (k ≤ length rest) → Some (c, k) ≡ sequence rest → Going t (take (length rest - k) (drop k rest)) (n + 1)
  going_more {c} {k} w e =
      let l = g.count in
      let f = g.few in
      let z = g.left in
      record {
        place = g.place + k;
        left = rw (whole, length-drop) (omega arith);
        cs = g.cs ++ c ∷ [];
        count = omega (arith, length-append g.cs (c ∷ []));
        few = omega arith;
        so = g.so ∙ ap (with_chars g.cs) (decoded_char rest g.place c k w.0 e) ∙ with_snoc g.cs c _ ∙ ap (λ x. with_chars (g.cs ++ c ∷ []) (decoded_from 0 (g.place + k) x)) (sym whole);
      }
    where
      whole : take (length rest - k) (drop k rest) ≡ drop k rest
      whole = rw (← (length-drop k rest)) (take-length (drop k rest))

  pub going_bad : 0 < length rest → None ≡ sequence rest → decoded t ≡ bad_at g.place
  going_bad h e = g.so ∙ ap (with_chars g.cs) (decoded_bad rest g.place h e) ∙ with_bad g.cs g.place

  pub going_all : length rest ≤ 0 → decoded t ≡ chars g.cs
  going_all h = g.so ∙ ap (with_chars g.cs) (decoded_end rest g.place h) ∙ with_chars_lem g.cs [] ∙ rw append-nil

  -- Counting.
  pub count_bad : 0 < length rest → None ≡ sequence rest → Err (length t - length rest) ≡ count_of (decoded t)
  count_bad h e = let z : length t - length rest ≡ g.place = omega (arith, g.left) in rw (going_bad h e, z)

  pub count-all : length rest ≤ 0 → Ok n ≡ count_of (decoded t)
  count-all h = rw (going_all h, g.count)

-- Writing: the characters so far fill the front of the output.
pub record Writing (t o₀ o rest : List ℕ) (n : ℕ) : Type 0 where
  pub going : Going t rest n
  pub wrote : o ≡ front going.cs o₀
  pub same : length o ≡ length o₀

-- Where there is room for all characters, and those so far take it, they are all.
full : (cs : List ℕ) (d : Decoded) (m : ℕ) → HasRoom (with_chars cs d) m → m ≤ length cs → with_chars cs d ≡ chars cs
full cs (bad_at p) m h l = absurd (subst (λ d. HasRoom d m) (with_bad cs p) h)
full cs (chars []) m h l = with_chars_lem cs [] ∙ rw append-nil
full cs (chars (d ∷ ds)) m h l = absurd (omega (arith, length-append cs (d ∷ ds), subst (λ d. HasRoom d m) (with_chars_lem cs (d ∷ ds)) h))

pub writing_none : (t o : List ℕ) → Writing t o o t 0
unfolding going_none
writing_none t o = record { going = going_none t; wrote = refl; same = refl }

module _ {t o₀ o rest : List ℕ} {n : ℕ} (w : Writing t o₀ o rest n) where
  pub writing_more : {c k : ℕ} → n < length o → (1 ≤ k) × (k ≤ length rest) → Some (c, k) ≡ sequence rest → Writing t o₀ (set o n c) (take (length rest - k) (drop k rest)) (n + 1)
  unfolding going_more
  writing_more {c} {k} h f e =
      let g = w.going in
      let l = w.same in
      record {
        going = going_more g f e;
        wrote = ap (λ x. set x n c) w.wrote ∙ ap (λ m. set (front g.cs o₀) m c) g.count ∙ front_snoc g.cs o₀ c (omega (arith, g.count));
        same = length-set o n c ∙ w.same;
      }

  module _ (room : HasRoom (decoded t) (length o₀)) where
    pub writing_end : None ≡ sequence rest → o ≡ written_of (decoded t) o₀
    writing_end e = by_order 0 (length rest)
        (λ h. absurd (subst (λ d. HasRoom d (length o₀)) (going_bad w.going h e) room))
        (λ h. rw (going_all w.going h) w.wrote)

    pub writing_all : length o ≤ n → o ≡ written_of (decoded t) o₀
    writing_all h =
        let g = w.going in
        let l = w.same in
        let d = decoded_from 0 g.place rest in
        rw (g.so ∙ full g.cs d (length o₀) (subst (λ d. HasRoom d (length o₀)) g.so room) (omega (arith, g.count))) w.wrote
