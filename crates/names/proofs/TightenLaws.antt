-- A pass that tightens in place: what is written lags behind what is read, so the rest is read as it was.
use mathlib.Core.Path.{◌≡◌, refl, sym, ap, ◌∙◌}
use mathlib.Core.Bool.{Bool, true, false, ◌&&◌, false≢true, true≢false}
use mathlib.Core.List.{List, [], ◌∷◌, ◌++◌, append-nil}
use Prim.Native.Nat.{ℕ, ◌+◌, ◌-◌, ◌≤◌, ◌<◌}
use native.Mathlib.Nat.{not-suc-le-zero}
use native.Mathlib.Omega.{arith}
use lib.Dec.{eqb}
use lib.ListN.{length, take, drop, get_or, set, length-append, length-set}
use lib.Seq.{append_snoc}
use borrow.Author.Tests.{eqb-true}
use Rattle.reading.specs.Span.{part}
use Rattle.reading.specs.Slices.{front}
use Rattle.reading.proofs.Passed.{part_none, part_length, part-drop, part-cell}
use Rattle.reading.proofs.Front.{front_snoc, drop-front}
use Rattle.names.specs.Flatten.{tighten}
use Rattle.names.specs.Spelling.{spaced, Tightened}

-- What a test over the first three cells gives
middle : (a b c : Bool) → a && b && c ≡ true → b ≡ true
middle a true c e = refl
middle true false c e = absurd (false≢true e)
middle false false c e = absurd (false≢true e)

tighten_in : (s : ℕ) (l : List ℕ) → true ≡ spaced s l → (tighten s l ≡ s ∷ tighten s (drop 3 l)) × (3 ≤ length l)
tighten_in s [] e = absurd (true≢false e)
tighten_in s (a ∷ []) e = absurd (true≢false e)
tighten_in s (a ∷ b ∷ []) e = absurd (true≢false e)
tighten_in s (a ∷ b ∷ c ∷ xs) e = let q : b ≡ s = eqb-true b s (middle (eqb a 0x20) (eqb b s) (eqb c 0x20) (sym e)) in (rw (← e), omega arith)

tighten_out : (s : ℕ) (l : List ℕ) → 0 < length l → false ≡ spaced s l → tighten s l ≡ get_or l 0 0 ∷ tighten s (drop 1 l)
tighten_out s [] h e = absurd (not-suc-le-zero h)
tighten_out s (a ∷ []) h e = refl
tighten_out s (a ∷ b ∷ []) h e = refl
tighten_out s (a ∷ b ∷ c ∷ xs) h e = rw (← e)

-- A pass that tightens the cells of b from `from` up to end: it stands at i, has written k cells, and left c
pub record Tightening (s : ℕ) (b : List ℕ) (from end i k : ℕ) (c : List ℕ) : Type 0 where
  pub written : List ℕ
  pub size : k ≡ length written
  pub on : from + k ≤ i
  pub within : i ≤ end
  pub same : length c ≡ length b
  pub left : c ≡ front written b
  pub rest : written ++ tighten s (part b i end) ≡ tighten s (part b from end)

pub tightening_none : (s : ℕ) (b : List ℕ) (from end : ℕ) → from ≤ end → Tightening s b from end from 0 b
tightening_none s b from end h = record { written = []; size = refl; on = omega arith; within = h; same = refl; left = refl; rest = refl }

module _ {s : ℕ} {b : List ℕ} {from end i k : ℕ} {c : List ℕ} (w : Tightening s b from end i k c) (h : end ≡ length b) where
  whole : length c ≡ end
  whole = w.same ∙ sym h

  as_was : part c i end ≡ part b i end
  as_was = let n = w.size in let m = w.on in rw w.left (ap (take (end - i)) (drop-front w.written b i (omega arith)))

  -- One cell more, behind which m are passed over.
  more : (x m : ℕ) → 1 ≤ m → i + m ≤ end → tighten s (part b i end) ≡ x ∷ tighten s (drop m (part b i end)) → Tightening s b from end (i + m) (k + 1) (set c k x)
  more x m o l e = let n = w.size in let q = w.on in let u = w.same in record {
    written = w.written ++ x ∷ [];
    size = rw length-append (omega arith);
    on = omega arith;
    within = l;
    same = length-set c k x ∙ w.same;
    left = rw (w.left, w.size) (front_snoc w.written b x (omega arith));
    rest = append_snoc w.written x _ ∙ ap (w.written ++◌) (sym (e ∙ rw (part-drop b i end m))) ∙ w.rest;
  }

  pub tightening_in : true ≡ spaced s (part c i (length c)) → Tightening s b from end (i + 3) (k + 1) (set c k s)
  tightening_in e =
      let t = tighten_in s (part b i end) (rw whole at e ∙ ap (spaced s) as_was) in
      more s 3 (omega arith) (omega (arith, t.1, part_length b i end (omega arith))) t.0

  pub tightening_out : false ≡ spaced s (part c i (length c)) → i < end → Tightening s b from end (i + 1) (k + 1) (set c k (get_or c i 0))
  tightening_out e l =
      let t = tighten_out s (part b i end) (rw (part_length b i end (omega arith)) (omega arith)) (rw whole at e ∙ ap (spaced s) as_was) in
      let z : i + 0 ≡ i = omega arith in
      let x : get_or (part b i end) 0 0 ≡ get_or c i 0 = sym (ap (λ l. get_or l 0 0) as_was) ∙ rw z at (part-cell c i end 0 (omega arith)) in
      more (get_or c i 0) 1 (omega arith) (omega arith) (rw x at t)

  pub tightening_all : end ≤ i → Tightened s b from end k c
  tightening_all l =
      let z : i ≡ end = let n = w.within in omega arith in
      let n = w.on in let m = w.within in
      let e : w.written ≡ tighten s (part b from end) = sym (append-nil w.written) ∙ rw (z, part_none b end) at w.rest in
      record { wrote = record { size = w.size ∙ ap length e; left = w.left ∙ ap (λ v. front v b) e }; less = omega arith; same = w.same }
