-- How code follows a reading: what the whole has come to, and the reach so far.
use Rattle.std.specs.Prelude.{Option}
use mathlib.Core.Path.{◌≡◌, refl, ap, ◌∙◌}
use mathlib.Core.Bool.{Bool}
use mathlib.Core.List.{List}
use Prim.Native.Nat.{ℕ, ◌+◌, ◌-◌, ◌≤◌, ◌<◌, max}
use native.Mathlib.Omega.{arith}
use lib.ListN.{length}
use Rattle.reading.specs.Look.{cell_at, Look, done, ask, ◌>>=◌, Seen, run_from, run}
use Rattle.reading.specs.Goes.{got, Goes, Sees, Reads}
use Rattle.reading.specs.Span.{gather, part}
use Rattle.reading.proofs.Reading.{run_bind, same_answer, reach_apart}
use Rattle.reading.proofs.Passed.{Passed, gathered}

seen_same : {A : Type 0} {x : Seen A} {a : A} {q : ℕ} → x.answer ≡ a → x.reach ≡ q → x ≡ got a q
seen_same e f = rw (← e, ← f)

from_zero : {A : Type 0} (t : List ℕ) (r : ℕ) (m : Look A) {a : A} {q : ℕ} → run t m ≡ got a q → run_from t r m ≡ got a (max r q)
from_zero t r m {a} {q} e = seen_same (same_answer t r 0 m ∙ ap (λ s. s.answer) e) (reach_apart t r m ∙ ap (λ s. max r s.reach) e)

after : {A B : Type 0} (t : List ℕ) (r : ℕ) (m : Look A) (k : A → Look B) {a : A} {q : ℕ} → run t m ≡ got a q → run_from t r (m >>= k) ≡ run_from t (max r q) (k a)
after t r m k e = run_bind t r m k ∙ rw (from_zero t r m e)

-- The reading w, begun with the reach o, has come to m, and its reach so far is r.
pub record Stands {A : Type 0} (t : List ℕ) (o : ℕ) (w m : Look A) (r : ℕ) : Type 0 where
  pub same : run_from t o w ≡ run_from t r m

pub begins : {A : Type 0} (t : List ℕ) (r : ℕ) (m : Look A) → Stands t r m m r
begins t r m = record { same = refl }

module _ {A : Type 0} {t : List ℕ} {o : ℕ} {w : Look A} where
  -- It looks at a cell.
  pub asks : {r i : ℕ} {f : Option ℕ → Look A} → Stands t o w (ask i f) r → (to : ℕ) → max r (i + 1) ≡ to → Stands t o w (f (cell_at t i)) to
  asks g to e = record { same = g.same ∙ rw (← e) }

  -- It reads what another reading gives, from the start or with the reach so far.
  pub takes : {B : Type 0} {m : Look B} {r q : ℕ} {b : B} → Sees t m b q → (k : B → Look A) → Stands t o w (m >>= k) r → (to : ℕ) → max r q ≡ to → Stands t o w (k b) to
  takes {m = m} {r} s k g to e = record { same = g.same ∙ after t r m k s.same ∙ rw (← e) }

  pub takes_on : {B : Type 0} {m : Look B} {r q : ℕ} {b : B} → Goes t r m b q → (k : B → Look A) → Stands t o w (m >>= k) r → Stands t o w (k b) q
  takes_on {m = m} {r} s k g = record { same = g.same ∙ run_bind t r m k ∙ rw s.same }

  pub finds : {a : A} {r : ℕ} → Stands t o w (done a) r → Goes t o w a r
  finds g = record { same = g.same }

  pub goes_on_lem : {m : Look A} {r q : ℕ} {a : A} → Stands t o w m r → Goes t r m a q → Goes t o w a q
  goes_on_lem g s = record { same = g.same ∙ s.same }

  pub sees_from : {m : Look A} {r q : ℕ} {a : A} → Stands t o w m r → Sees t m a q → (to : ℕ) → max r q ≡ to → Goes t o w a to
  sees_from {m} {r} g s to e = record { same = g.same ∙ from_zero t r m s.same ∙ rw (← e) }

-- A run of a class, with fuel for more cells than are left: it has looked at its end.
pub sees_gather : {p : ℕ → Bool} {t : List ℕ} {i j : ℕ} → Passed p t i j → (f : ℕ) → length t - i < f → Goes {A = List ℕ × ℕ} t 0 (gather p f i) (part t i j, j) (j + 1)
sees_gather {p} {t} {i} {j} e f h =
    let m : max 0 (j + 1) ≡ j + 1 = omega arith in
    record { same = gathered p t f i 0 h ∙ rw (e.end, m) }

-- The same with a bound in place of the reach: the reading w has come to m, and looked no further than far.
pub record Going {A : Type 0} (t : List ℕ) (w m : Look A) (far : ℕ) : Type 0 where
  pub reach : ℕ
  pub near : reach ≤ far
  pub same : run t w ≡ run_from t reach m

pub start : {A : Type 0} (t : List ℕ) (m : Look A) → Going t m m 0
start t m = record { reach = 0; near = omega arith; same = refl }

pub wider : {A : Type 0} {t : List ℕ} {w m : Look A} {far : ℕ} → Going t w m far → (to : ℕ) → far ≤ to → Going t w m to
wider g to h = record { reach = g.reach; near = let n = g.near in omega arith; same = g.same }

pub farther : {A : Type 0} {t : List ℕ} {m : Look A} {a : A} {far : ℕ} → Reads t m a far → (to : ℕ) → far ≤ to → Reads t m a to
farther g to h = record { reach = g.reach; near = let n = g.near in omega arith; same = g.same }

pub exactly : {A : Type 0} {t : List ℕ} {m : Look A} {a : A} {q : ℕ} → Sees t m a q → Reads t m a q
exactly {q = q} e = record { reach = q; near = omega arith; same = e.same }

module _ {A : Type 0} {t : List ℕ} {w : Look A} where
  pub looks : {far i : ℕ} {f : Option ℕ → Look A} → Going t w (ask i f) far → (to : ℕ) → i < to → far ≤ to → Going t w (f (cell_at t i)) to
  looks {i = i} g to h l = record { reach = max g.reach (i + 1); near = let n = g.near in omega arith; same = g.same }

  pub by : {B : Type 0} {m : Look B} {far q : ℕ} {b : B} → Reads t m b q → (k : B → Look A) → Going t w (m >>= k) far → (to : ℕ) → far ≤ to → q ≤ to → Going t w (k b) to
  by {m = m} r k g to h l = record { reach = max g.reach r.reach; near = let n = g.near in let n' = r.near in omega arith; same = g.same ∙ after t g.reach m k r.same }

  pub ends : {a : A} {far : ℕ} → Going t w (done a) far → Reads t w a far
  ends g = record { reach = g.reach; near = g.near; same = g.same }
