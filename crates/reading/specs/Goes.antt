-- What a reading gives, as contracts say it.
use Rattle.std.specs.Prelude.{◌≡◌, List, ℕ, ◌≤◌}
use Rattle.reading.specs.Look.{Look, Seen, run_from}

abbrev pub got : {A : Type 0} → A → ℕ → Seen A
got a q = record { answer = a; reach = q }

-- With r as the reach so far, the reading m of the text t gives a, and q is the reach then.
pub record Goes {A : Type 0} (t : List ℕ) (r : ℕ) (m : Look A) (a : A) (q : ℕ) : Type 0 where
  pub same : run_from t r m ≡ got a q

abbrev pub Sees : {A : Type 0} → List ℕ → Look A → A → ℕ → Type 0
Sees t m a q = Goes t 0 m a q

-- The reading m of the text t gives a, and looks no further than far.
pub record Reads {A : Type 0} (t : List ℕ) (m : Look A) (a : A) (far : ℕ) : Type 0 where
  pub reach : ℕ
  pub near : reach ≤ far
  pub same : run_from t 0 m ≡ got a reach
