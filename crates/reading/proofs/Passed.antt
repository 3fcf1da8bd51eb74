-- One law over the class: gathering cell by cell gives the span, and looks one cell further.
use mathlib.Core.Path.{◌≡◌, refl, sym, ap, ◌∙◌}
use native.Mathlib.Numerals.{add-one}
use mathlib.Core.Bool.{Bool, true, false, false≢true}
use mathlib.Core.List.{List, [], ◌∷◌, ◌++◌}
use Prim.Native.Nat.{ℕ, zero, suc, ◌+◌, ◌-◌, ◌≤◌, ◌<◌, max}
use native.Mathlib.Nat.{not-suc-le-zero}
use native.Mathlib.Omega.{arith}
use lib.ListN.{length, get_or, take, drop, length-take, length-drop}
use lib.Seq.{drop-nil, take-nil, drop-cons, drop-drop, get_or-take, get_or-drop, take-suc}
use Rattle.reading.specs.Look.{cell_at, Seen, run_from, reaching}
use Rattle.reading.specs.Cells.{holds}
use Rattle.reading.specs.Span.{gather, span, past, part}
use Rattle.reading.proofs.Test.{by_test, by_order}
use Rattle.reading.proofs.Reading.{run_bind}
use Rattle.reading.proofs.Cell.{cell_in, cell_out, cell_there, cell-drop}

span_in : (p : ℕ → Bool) (t : List ℕ) (i : ℕ) → holds p (cell_at t i) ≡ true → span p (drop i t) ≡ suc (span p (drop (suc i) t))
unfolding cell_at
span_in p [] i h = absurd (false≢true h)
span_in p (x ∷ t) zero h = rw h
span_in p (x ∷ t) (suc i) h = span_in p t i h

span_out : (p : ℕ → Bool) (t : List ℕ) (i : ℕ) → holds p (cell_at t i) ≡ false → span p (drop i t) ≡ 0
unfolding cell_at
span_out p [] i h = rw drop-nil
span_out p (x ∷ t) zero h = rw h
span_out p (x ∷ t) (suc i) h = span_out p t i h

-- A cell of the class is passed, and at any other the run is over.
module _ (p : ℕ → Bool) (t : List ℕ) (i : ℕ) where
  pub past_in : holds p (cell_at t i) ≡ true → past p t i ≡ past p t (suc i)
  unfolding past
  past_in h = omega (arith, span_in p t i h)

  pub past_out : holds p (cell_at t i) ≡ false → past p t i ≡ i
  unfolding past
  past_out h = omega (arith, span_out p t i h)

  past_up : i ≤ past p t i
  unfolding past
  past_up = omega arith

-- The run of the class p from i on ends at j.
pub record Passed (p : ℕ → Bool) (t : List ℕ) (i j : ℕ) : Type 0 where
  pub from : i ≤ j
  pub within : j ≤ length t
  pub end : past p t i ≡ j
  pub out : holds p (cell_at t j) ≡ false

span-within : (p : ℕ → Bool) (t : List ℕ) → span p t ≤ length t
span-within p [] = omega arith
span-within p (x ∷ t) = by_test (λ n. n ≤ suc (length t)) (p x) (λ _. omega (arith, span-within p t)) (λ _. omega arith)

span_stops : (p : ℕ → Bool) (t : List ℕ) → holds p (cell_at t (span p t)) ≡ false
unfolding cell_at
span_stops p [] = refl
span_stops p (x ∷ t) = by_test (λ n. holds p (cell_at (x ∷ t) n) ≡ false) (p x) (λ _. span_stops p t) (λ e. e)

-- Every run ends within the text.
pub passed : (p : ℕ → Bool) (t : List ℕ) (i : ℕ) → i ≤ length t → Passed p t i (past p t i)
unfolding past
passed p t i h = record {
  from = omega arith;
  within = omega (arith, span-within p (drop i t), length-drop i t);
  end = refl;
  out = rw (← cell-drop i t (span p (drop i t))) (span_stops p (drop i t));
}

-- A loop of code that passes cells of the class p: it began at i and stands at j.
pub record Along (p : ℕ → Bool) (t : List ℕ) (i j : ℕ) : Type 0 where
  pub from : i ≤ j
  pub within : j ≤ length t
  pub same : past p t i ≡ past p t j

pub along_none : {p : ℕ → Bool} {t : List ℕ} {i : ℕ} → i ≤ length t → Along p t i i
along_none h = record { from = omega arith; within = h; same = refl }

module _ {p : ℕ → Bool} {t : List ℕ} {i j : ℕ} (a : Along p t i j) {b : Bool} (e : b ≡ holds p (cell_at t j)) where
  pub along_more : b ≡ true → Along p t i (j + 1)
  along_more g =
      let h : holds p (cell_at t j) ≡ true = sym e ∙ g in
      let l = cell_there p t j h in
      let n = a.from in
      record { from = omega arith; within = omega arith; same = a.same ∙ past_in p t j h ∙ ap (past p t) (sym (add-one j)) }

  pub along_end : b ≡ false → Passed p t i j
  along_end g = record { from = a.from; within = a.within; end = a.same ∙ past_out p t j (sym e ∙ g); out = sym e ∙ g }

-- A run that begins with a cell of the class is not empty.
pub passed_more : {p : ℕ → Bool} {t : List ℕ} {i j : ℕ} → Passed p t i j → holds p (cell_at t i) ≡ true → i < j
passed_more {p} {t} {i} {j} d h = omega (arith, past_up p t (suc i), past_in p t i h, d.end)

pub part_none : (t : List ℕ) (i : ℕ) → part t i i ≡ []
part_none t i = let e : i - i ≡ 0 = omega arith in rw e

pub part_more : (t : List ℕ) (i j : ℕ) → i < length t → i < j → part t i j ≡ get_or t i 0 ∷ part t (suc i) j
part_more t i j h l = let e : j - i ≡ suc (j - suc i) = omega arith in rw (e, drop-cons t i 0 h)

pub part_length : (t : List ℕ) (i j : ℕ) → j ≤ length t → length (part t i j) ≡ j - i
part_length t i j h = simp (length-take, length-drop) (omega arith)

-- A part without its first cells, its cells, and its last cell apart.
drop-take : (n m : ℕ) (l : List ℕ) → drop n (take m l) ≡ take (m - n) (drop n l)
drop-take zero m l = let z : m - 0 ≡ m = omega arith in rw z
drop-take (suc n) zero l = let z : 0 - suc n ≡ 0 = omega arith in rw z
drop-take (suc n) (suc m) [] = rw take-nil
drop-take (suc n) (suc m) (x ∷ l) = let z : suc m - suc n ≡ m - n = omega arith in rw z (drop-take n m l)

module _ (t : List ℕ) (i e : ℕ) where
  pub part-drop : (m : ℕ) → drop m (part t i e) ≡ part t (i + m) e
  part-drop m = let z : e - i - m ≡ e - (i + m) = omega arith in drop-take m (e - i) (drop i t) ∙ rw (drop-drop m i t, z)

  pub part-cell : (m : ℕ) → i + m < e → get_or (part t i e) m 0 ≡ get_or t (i + m) 0
  part-cell m h = get_or-take (e - i) (drop i t) m 0 (omega arith) ∙ get_or-drop i t m 0

  pub part_snoc : i < e → e ≤ length t → part t i e ≡ part t i (e - 1) ++ get_or t (e - 1) 0 ∷ []
  part_snoc l h =
      let z : e - i ≡ suc (e - 1 - i) = omega arith in
      let y : i + (e - 1 - i) ≡ e - 1 = omega arith in
      rw z (take-suc (drop i t) (e - 1 - i) 0 (rw length-drop (omega arith)) ∙ rw (get_or-drop i t (e - 1 - i) 0, y))

abbrev gathering : List ℕ → ℕ → ℕ → ℕ → Seen (List ℕ × ℕ)
gathering t i j q = record { answer = (part t i j, j); reach = q }

-- With fuel for more cells than are left, gathering gives the cells of the run and its end, and has looked at that end.
pub gathered : (p : ℕ → Bool) (t : List ℕ) (f i r : ℕ) → length t - i < f
    → run_from t r (gather p f i) ≡ gathering t i (past p t i) (max r (past p t i + 1))
unfolding gather
gathered p t zero i r h = absurd (not-suc-le-zero h)
gathered p t (suc f) i r h = by_order i (length t)
    (λ l. rw (cell_in t i l, run_from) (by_test (λ m. run_from t (reaching r i) m ≡ gathering t i (past p t i) (max r (past p t i + 1))) (p (get_or t i 0))
    (λ e.
    let n = past_in p t i (rw (cell_in t i l) e) in
    let u = past_up p t (suc i) in
    let m : max (reaching r i) (past p t (suc i) + 1) ≡ max r (past p t (suc i) + 1) = omega arith in
    run_bind t (reaching r i) (gather p f (suc i)) _
    ∙ rw (gathered p t f (suc i) (reaching r i) (omega arith), n, m, part_more t i (past p t (suc i)) l (omega arith)))
    (λ e. let n = past_out p t i (rw (cell_in t i l) e) in rw (n, part_none))))
    (λ l. let n = past_out p t i (rw (cell_out t i l) refl) in rw (cell_out t i l, run_from, n, part_none))
