-- A small logic of readings: each rule says what a look, a bind or a test adds to what is known of the parts.
use Rattle.std.specs.Prelude.{Option, None, Some}
use mathlib.Core.Path.{◌≡◌, refl, sym, ap, ◌∙◌, subst}
use mathlib.Core.Bool.{Bool, true, false, cond}
use mathlib.Core.List.{List}
use Prim.Native.Nat.{ℕ, ◌-◌, ◌≤◌, ◌<◌}
use native.Mathlib.Omega.{arith}
use lib.ListN.{length}
use Rattle.reading.specs.Look.{cell_at, Look, done, ask, ◌>>=◌, run_from, run, reaching}
use Rattle.reading.specs.Cells.{maybe}
use Rattle.reading.specs.Span.{gather, part}
use Rattle.reading.proofs.Test.{by_order}
use Rattle.reading.proofs.Reading.{run_bind, same_answer, reach_apart}
use Rattle.reading.proofs.Cell.{cell_in, cell_out}
use Rattle.reading.proofs.Passed.{Passed, passed, gathered}

-- Two readings of the text t, which differ in their fuel, give the same answer with the same reach;
-- P holds of the answer, and no cell at or beyond far is asked for.
pub record Ensures {A : Type 0} (t : List ℕ) (far : ℕ) (P : A → Type 0) (m m' : Look A) : Type 0 where
  pub holding : P (run t m).answer
  pub near : (run t m).reach ≤ far
  pub same : (r : ℕ) → run_from t r m ≡ run_from t r m'

module _ {A : Type 0} {t : List ℕ} {far : ℕ} {P : A → Type 0} where
  pub answers : {a : A} → P a → Ensures t far P (done a) (done a)
  answers h = record { holding = h; near = omega arith; same = λ r. refl }

  pub asks : {i : ℕ} {f f' : Option ℕ → Look A} → i < far → Ensures t far P (f (cell_at t i)) (f' (cell_at t i)) → Ensures t far P (ask i f) (ask i f')
  asks {i = i} {f} {f'} l h = record {
    holding = subst P (same_answer t 0 (reaching 0 i) (f (cell_at t i))) h.holding;
    near = omega (arith, reach_apart t (reaching 0 i) (f (cell_at t i)), h.near);
    same = λ r. h.same (reaching r i);
  }

  -- A look, by whether a cell is there.
  pub asks_cell : {i : ℕ} {f f' : Option ℕ → Look A} → i < far → (length t ≤ i → Ensures t far P (f None) (f' None))
      → ((c : ℕ) → cell_at t i ≡ Some c → i < length t → Ensures t far P (f (Some c)) (f' (Some c))) → Ensures t far P (ask i f) (ask i f')
  asks_cell {i = i} {f} {f'} l x y = asks l (by_order i (length t)
      (λ h. let e = cell_in t i h in subst (λ c. Ensures t far P (f c) (f' c)) (sym e) (y _ e h))
      (λ h. subst (λ c. Ensures t far P (f c) (f' c)) (sym (cell_out t i h)) (x h)))

  pub binds : {B : Type 0} {Q : B → Type 0} {m m' : Look A} {k k' : A → Look B} → Ensures t far P m m' → ((a : A) → P a → Ensures t far Q (k a) (k' a)) → Ensures t far Q (m >>= k) (m' >>= k')
  binds {Q = Q} {m} {m'} {k} {k'} h g =
      let a = (run t m).answer in
      let s = g a h.holding in
      let q = (run t m).reach in
      record {
        holding = subst Q (same_answer t 0 q (k a) ∙ ap (λ x. x.answer) (sym (run_bind t 0 m k))) s.holding;
        near = omega (arith, h.near, s.near, reach_apart t q (k a), ap (λ x. x.reach) (run_bind t 0 m k));
        same = λ r. run_bind t r m k ∙ after r (s.same (run_from t r m).reach) ∙ ap (λ x. run_from t x.reach (k' x.answer)) (h.same r) ∙ sym (run_bind t r m' k');
      }
    where
      after : (r : ℕ) → run_from t (run_from t r m).reach (k (run t m).answer) ≡ run_from t (run_from t r m).reach (k' (run t m).answer)
          → run_from t (run_from t r m).reach (k (run_from t r m).answer) ≡ run_from t (run_from t r m).reach (k' (run_from t r m).answer)
      after r e = subst (λ a. run_from t (run_from t r m).reach (k a) ≡ run_from t (run_from t r m).reach (k' a)) (same_answer t 0 r m) e

  pub tests : (b : Bool) {x x' y y' : Look A} → (b ≡ true → Ensures t far P x x') → (b ≡ false → Ensures t far P y y') → Ensures t far P (cond b x y) (cond b x' y')
  tests true f g = f refl
  tests false f g = g refl

  pub weakens : {Q : A → Type 0} {m m' : Look A} → Ensures t far P m m' → ((a : A) → P a → Q a) → Ensures t far Q m m'
  weakens h g = record { holding = g _ h.holding; near = h.near; same = h.same }

  pub chooses : {B : Type 0} (o : Option B) {x x' : Look A} {f f' : B → Look A} → Ensures t far P x x' → ((b : B) → Ensures t far P (f b) (f' b)) → Ensures t far P (maybe o x f) (maybe o x' f')
  chooses None x y = x
  chooses (Some b) x y = y b

  pub chooses_cell : (i : ℕ) {x x' : Look A} {f f' : ℕ → Look A} → Ensures t far P x x' → ((c : ℕ) → i < length t → Ensures t far P (f c) (f' c))
      → Ensures t far P (maybe (cell_at t i) x f) (maybe (cell_at t i) x' f')
  chooses_cell i {x} {x'} {f} {f'} y z = by_order i (length t)
      (λ h. subst (λ c. Ensures t far P (maybe c x f) (maybe c x' f')) (sym (cell_in t i h)) (z _ h))
      (λ h. subst (λ c. Ensures t far P (maybe c x f) (maybe c x' f')) (sym (cell_out t i h)) y)

-- A run of a class, read with any fuel for more cells than are left.
pub record Gathered (p : ℕ → Bool) (t : List ℕ) (i : ℕ) (r : List ℕ × ℕ) : Type 0 where
  pub cells : r.0 ≡ part t i r.1
  pub run_ends : Passed p t i r.1

pub gathers : (p : ℕ → Bool) (t : List ℕ) (far f f' i : ℕ) → i ≤ length t → length t < far → length t - i < f → length t - i < f' → Ensures t far (Gathered p t i) (gather p f i) (gather p f' i)
gathers p t far f f' i h l e e' =
    let d = passed p t i h in
    let g = gathered p t f i 0 e in
    record {
      holding = subst (λ s. Gathered p t i s.answer) (sym g) (record { cells = refl; run_ends = d });
      near = omega (arith, ap (λ s. s.reach) g, d.within);
      same = λ r. gathered p t f i r e ∙ sym (gathered p t f' i r e');
    }
