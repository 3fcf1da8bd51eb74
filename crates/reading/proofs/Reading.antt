-- The laws of readings, by induction on the tree of looks: bind, the reach so far, locality.
use mathlib.Core.Path.{◌≡◌, refl, ap, ◌∙◌}
use mathlib.Core.List.{List}
use Prim.Native.Nat.{ℕ, ◌<◌, max}
use native.Mathlib.Omega.{arith}
use Rattle.reading.specs.Look.{cell_at, Look, done, ask, ◌>>=◌, run_from, run, reaching}

-- A reading after a reading: the second starts with the reach of the first.
pub run_bind : {A B : Type 0} (t : List ℕ) (r : ℕ) (m : Look A) (k : A → Look B) → run_from t r (m >>= k) ≡ run_from t (run_from t r m).reach (k (run_from t r m).answer)
run_bind t r (done a) k = refl
run_bind t r (ask i f) k = run_bind t (reaching r i) (f (cell_at t i)) k

-- The reach so far changes no answer ..
pub same_answer : {A : Type 0} (t : List ℕ) (r s : ℕ) (m : Look A) → (run_from t r m).answer ≡ (run_from t s m).answer
same_answer t r s (done a) = refl
same_answer t r s (ask i f) = same_answer t (reaching r i) (reaching s i) (f (cell_at t i))

-- .. and factors out of the reach.
pub reach_apart : {A : Type 0} (t : List ℕ) (r : ℕ) (m : Look A) → (run_from t r m).reach ≡ max r (run t m).reach
reach_apart t r (done a) = omega arith
reach_apart t r (ask i f) = omega (arith, reach_apart t (reaching r i) (f (cell_at t i)), reach_apart t (reaching 0 i) (f (cell_at t i)))

-- Locality: what is read depends on the cells below the reach alone, and on the end only where it was looked at.
pub locality : {A : Type 0} (t u : List ℕ) (r : ℕ) (m : Look A) → ((i : ℕ) → i < (run_from t r m).reach → cell_at t i ≡ cell_at u i) → run_from t r m ≡ run_from u r m
locality t u r (done a) h = refl
locality t u r (ask i f) h =
    locality t u (reaching r i) (f (cell_at t i)) h
    ∙ ap (λ c. run_from u (reaching r i) (f c)) (h i (omega (arith, reach_apart t (reaching r i) (f (cell_at t i)))))
