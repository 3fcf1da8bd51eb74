-- A prefix that holds more than the longest key has cells is no name, nor is any longer one.
use Rattle.std.specs.Prelude.{Result, Ok, Err}
use mathlib.Core.Path.{◌≡◌, refl, sym, ap, ◌∙◌, subst}
use mathlib.Core.Bool.{Bool, true, false}
use mathlib.Core.List.{List}
use Prim.Native.Nat.{ℕ, zero, suc, ◌+◌, ◌≤◌, ◌<◌}
use native.Mathlib.Omega.{arith}
use lib.ListN.{length}
use Rattle.reading.specs.Span.{part}
use Rattle.reading.proofs.Test.{by_order}
use Rattle.reading.proofs.Passed.{part_length}
use Rattle.names.specs.Flatten.{flatten}
use Rattle.names.specs.Ink.{ink, inks}
use Rattle.names.proofs.InkLaws.{ink-flatten, ink-length}
use Rattle.lexer.specs.Naming.{texts}
use Rattle.lexer.specs.Places.{next_of, Placed, leads, end_of, prefix}
use Rattle.lexer.specs.Fit.{fit, Bounded}
use Rattle.lexer.proofs.PartLaws.{prefix-at}

-- A longer prefix holds no less.
inks-leads : (t : List ℕ) (m n : ℕ) (x : Result (ℕ × ℕ) ℕ) → ((e : ℕ) → inks (texts (prefix t m e)) ≤ inks (texts (prefix t n e))) → inks (texts (leads t x (prefix t m (end_of x)))) ≤ inks (texts (leads t x (prefix t n (end_of x))))
inks-leads t m n (Ok p) f = omega (arith, f p.1)
inks-leads t m n (Err e) f = omega arith

inks_up : (t : List ℕ) (m n i : ℕ) → m ≤ n → inks (texts (prefix t m i)) ≤ inks (texts (prefix t n i))
unfolding prefix
inks_up t zero n i h = omega arith
inks_up t (suc m) zero i h = absurd (omega arith)
inks_up t (suc m) (suc n) i h = inks-leads t m n (next_of t i) (λ e. inks_up t m n e (omega arith))

-- Prefixes of more than m parts hold too much.
module _ (found : List ℕ → Bool) (cap : ℕ) (keys : (l : List ℕ) → found l ≡ true → length l ≤ cap) (t : List ℕ) (from m : ℕ) (over : cap < inks (texts (prefix t (suc m) from))) where
  missed : (n : ℕ) → m < n → found (flatten (texts (prefix t n from))) ≡ false
  missed n h = go (found (flatten (texts (prefix t n from)))) refl
    where
      go : (b : Bool) → found (flatten (texts (prefix t n from))) ≡ b → b ≡ false
      go false e = refl
      go true e = absurd (omega (arith, keys (flatten (texts (prefix t n from))) e, ink-length (flatten (texts (prefix t n from))), ink-flatten (texts (prefix t n from)), inks_up t (suc m) n from h))

  pub fit_bound : (n : ℕ) → m ≤ n → fit found t from n ≡ fit found t from m
  unfolding fit
  fit_bound zero h = let e : m ≡ 0 = omega arith in rw e
  fit_bound (suc n) h = by_order m (suc n) (λ l. rw (missed (suc n) l) (fit_bound n (omega arith))) (λ l. let e : m ≡ suc n = omega arith in rw e)

-- A loop that adds up what the parts hold has added m of them and stands at i.
pub record Bounding (t : List ℕ) (from n i m total : ℕ) : Type 0 where
  pub upto : m ≤ n
  pub within : i ≤ length t
  pub size : total ≤ i
  pub so : (k : ℕ) → inks (texts (prefix t (m + k) from)) ≡ total + inks (texts (prefix t k i))

pub bounding_none : (t : List ℕ) (from n : ℕ) → from ≤ length t → Bounding t from n from 0 0
bounding_none t from n h = record { upto = omega arith; within = h; size = omega arith; so = λ k. let z : 0 + k ≡ k = omega arith in rw z (omega arith) }

pub bounded_all : (t : List ℕ) (from n cap : ℕ) → Bounded t from n cap n
bounded_all t from n cap = record { less = omega arith; so = λ found keys. refl }

module _ {t : List ℕ} {from n i m total : ℕ} (g : Bounding t from n i m total) {x : Result (ℕ × ℕ) ℕ} (q : (x ≡ next_of t i) × Placed t i x) {p : ℕ × ℕ} (r : x ≡ Ok p) where
  pub step_on : (i ≤ p.0) × (p.0 < p.1) × (p.1 ≤ length t)
  step_on = subst (Placed t i) r q.1

  module _ (l : m < n) {w : ℕ} (u : (w ≡ ink (part t p.0 p.1)) × (w ≤ length (part t p.0 p.1))) where
    more : (k : ℕ) → inks (texts (prefix t (m + suc k) from)) ≡ total + w + inks (texts (prefix t k p.1))
    more k = g.so (suc k) ∙ ap (λ ps. total + inks (texts ps)) (prefix-at t i k p (sym r ∙ q.0)) ∙ omega (arith, u.0)

    pub bounding_over : {cap : ℕ} → cap < total + w → Bounded t from n cap m
    bounding_over {cap} h =
        let z : m + 1 ≡ suc m = omega arith in
        let o : inks (texts (prefix t (suc m) from)) ≡ total + w + inks (texts (prefix t 0 p.1)) = rw z at (more 0) in
        record { less = omega arith; so = λ found keys. fit_bound found cap keys t from m (omega (arith, o, h)) n (omega arith) }

    pub bounding_more : Bounding t from n p.1 (m + 1) (total + w)
    bounding_more = let k = step_on in let a = k.0 in let b = k.1 in let z = g.size in let y = u.1 in let v = part_length t p.0 p.1 k.2 in record {
      upto = omega arith;
      within = k.2;
      size = omega arith;
      so = λ k. let z : m + 1 + k ≡ m + suc k = omega arith in rw z (more k);
    }
