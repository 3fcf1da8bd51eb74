-- Flattening keeps all that is no white space: trimming takes white space only, and a pass takes the two spaces about a symbol.
use mathlib.Core.Path.{◌≡◌, refl, sym, ap, ◌∙◌}
use mathlib.Core.Bool.{Bool, true, false, cond, not, ◌&&◌, false≢true}
use mathlib.Core.List.{List, [], ◌∷◌, ◌++◌, map, reverse, reverse-cons}
use Prim.Native.Nat.{ℕ, suc, ◌+◌, ◌≤◌}
use native.Mathlib.Omega.{arith}
use Rattle.std.specs.Prelude.{count_by}
use Rattle.std.proofs.lemmas.List.Sums.{sum_by-cons}
use lib.Dec.{eqb}
use lib.ListN.{length}
use borrow.Author.Tests.{eqb-true}
use Rattle.reading.specs.Codes.{codes}
use Rattle.reading.proofs.Test.{by_test, both, all_of}
use Rattle.text.specs.Classes.{is_white}
use Rattle.names.specs.Trim.{trim_front, trim}
use Rattle.names.specs.Flatten.{join_by_space, tighten, tighten_all, flat, flatten}
use Rattle.names.specs.Ink.{ink, inks}

ink_white : (x : ℕ) (l : List ℕ) → is_white x ≡ true → ink (x ∷ l) ≡ ink l
ink_white x l e = rw e

ink_black : (x : ℕ) (l : List ℕ) → is_white x ≡ false → ink (x ∷ l) ≡ suc (ink l)
ink_black x l e = rw e

ink_cons : (x : ℕ) (l m : List ℕ) → ink l ≡ ink m → ink (x ∷ l) ≡ ink (x ∷ m)
ink_cons x l m e = rw e

pub ink-append : (a b : List ℕ) → ink (a ++ b) ≡ ink a + ink b
ink-append [] b = omega arith
ink-append (x ∷ a) b = go (is_white x) (ink-append a b)
  where
    go : (w : Bool) → ink (a ++ b) ≡ ink a + ink b → cond w (ink (a ++ b)) (suc (ink (a ++ b))) ≡ cond w (ink a) (suc (ink a)) + ink b
    go true e = e
    go false e = omega (arith, e)

ink-trim_front : (l : List ℕ) → ink (trim_front l) ≡ ink l
ink-trim_front [] = refl
ink-trim_front (x ∷ l) = go (is_white x) refl (ink-trim_front l)
  where
    go : (w : Bool) → is_white x ≡ w → ink (trim_front l) ≡ ink l → ink (cond w (trim_front l) (x ∷ l)) ≡ ink (x ∷ l)
    go true e h = h ∙ sym (ink_white x l e)
    go false e h = refl

ink_reverse : (l : List ℕ) → ink (reverse l) ≡ ink l
ink_reverse [] = refl
ink_reverse (x ∷ l) = ap ink (reverse-cons x l) ∙ ink-append (reverse l) (x ∷ []) ∙ go (is_white x) (ink_reverse l)
  where
    go : (w : Bool) → ink (reverse l) ≡ ink l → ink (reverse l) + cond w 0 1 ≡ cond w (ink l) (suc (ink l))
    go true e = omega (arith, e)
    go false e = omega (arith, e)

ink-trim : (l : List ℕ) → ink (trim l) ≡ ink l
unfolding trim
ink-trim l = ink_reverse (trim_front (reverse (trim_front l))) ∙ ink-trim_front (reverse (trim_front l)) ∙ ink_reverse (trim_front l) ∙ ink-trim_front l

space_white : is_white 0x20 ≡ true
unfolding is_white
space_white = refl

module _ (s : ℕ) (black : is_white s ≡ false) where
  ink-tighten : (l : List ℕ) → ink (tighten s l) ≡ ink l
  ink-tighten [] = refl
  ink-tighten (a ∷ []) = refl
  ink-tighten (a ∷ b ∷ []) = refl
  ink-tighten (a ∷ b ∷ c ∷ l) = go (eqb a 0x20 && eqb b s && eqb c 0x20) refl (ink-tighten l) (ink-tighten (b ∷ c ∷ l))
    where
      go : (w : Bool) → eqb a 0x20 && eqb b s && eqb c 0x20 ≡ w → ink (tighten s l) ≡ ink l → ink (tighten s (b ∷ c ∷ l)) ≡ ink (b ∷ c ∷ l)
          → ink (cond w (s ∷ tighten s l) (a ∷ tighten s (b ∷ c ∷ l))) ≡ ink (a ∷ b ∷ c ∷ l)
      go true e h k =
          let t = both (eqb a 0x20 && eqb b s) (eqb c 0x20) e in
          let u = both (eqb a 0x20) (eqb b s) t.0 in
          let wa : is_white a ≡ true = ap is_white (eqb-true a 0x20 u.0) ∙ space_white in
          let wb : is_white b ≡ false = ap is_white (eqb-true b s u.1) ∙ black in
          let wc : is_white c ≡ true = ap is_white (eqb-true c 0x20 t.1) ∙ space_white in
          ink_black s (tighten s l) black ∙ ap suc (h ∙ sym (ink_white c l wc)) ∙ sym (ink_black b (c ∷ l) wb) ∙ sym (ink_white a (b ∷ c ∷ l) wa)
      go false e h k = ink_cons a (tighten s (b ∷ c ∷ l)) (b ∷ c ∷ l) k

-- Every pass keeps it, for a symbol is no white space.
ink-tighten-all : (ss l : List ℕ) → all_of (λ s. not (is_white s)) ss ≡ true → ink (tighten_all ss l) ≡ ink l
ink-tighten-all [] l h = refl
ink-tighten-all (s ∷ ss) l h =
    let b = both (not (is_white s)) _ h in
    ink-tighten-all ss (tighten s l) b.1 ∙ ink-tighten s (no (is_white s) b.0) l
  where
    no : (w : Bool) → not w ≡ true → w ≡ false
    no true e = absurd (false≢true e)
    no false e = refl

ink-flat : (l : List ℕ) → ink (flat l) ≡ ink l
unfolding flat is_white
ink-flat l = ink-tighten-all (codes "./-'+*") (trim l) refl ∙ ink-trim l

ink_join : (ps : List (List ℕ)) → ink (join_by_space ps) ≡ inks ps
ink_join [] = refl
ink_join (p ∷ []) = omega arith
ink_join (p ∷ q ∷ ps) = ink-append p (0x20 ∷ join_by_space (q ∷ ps)) ∙ ap (ink p +◌) (ink_white 0x20 (join_by_space (q ∷ ps)) space_white ∙ ink_join (q ∷ ps))

inks-trim : (ps : List (List ℕ)) → inks (map trim ps) ≡ inks ps
inks-trim [] = refl
inks-trim (p ∷ ps) = rw (ink-trim p, inks-trim ps)

pub ink-flatten : (ps : List (List ℕ)) → ink (flatten ps) ≡ inks ps
ink-flatten ps = ink-flat (join_by_space (map trim ps)) ∙ ink_join (map trim ps) ∙ inks-trim ps

pub ink-length : (l : List ℕ) → ink l ≤ length l
ink-length [] = omega arith
ink-length (x ∷ l) = by_test (λ n. n ≤ suc (length l)) (is_white x) (λ _. omega (arith, ink-length l)) (λ _. omega (arith, ink-length l))

-- It is what code counts.
pub ink_counts : (l : List ℕ) → ink l ≡ count_by (λ c. not (is_white c)) l
ink_counts [] = refl
ink_counts (x ∷ l) = go (is_white x) (ink_counts l) ∙ sym (sum_by-cons (λ c. cond (not (is_white c)) 1 0) x l)
  where
    go : (w : Bool) → ink l ≡ count_by (λ c. not (is_white c)) l → cond w (ink l) (suc (ink l)) ≡ cond (not w) 1 0 + count_by (λ c. not (is_white c)) l
    go true e = omega (arith, e)
    go false e = omega (arith, e)
