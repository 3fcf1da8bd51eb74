-- The entries read off the rows, by index.
use mathlib.Core.Path.{◌≡◌, refl, ap}
use mathlib.Core.List.{List, [], ◌∷◌}
use Prim.Native.Nat.{ℕ, zero, suc, ◌+◌, ◌-◌, ◌<◌, ◌≤◌}
use native.Mathlib.Omega.{arith}
use lib.Dec.{ltb}
use native.Mathlib.Numerals.{add-one}
use lib.ListN.{length, get_or, drop, take}
use lib.Seq.{drop-cons}
use borrow.Author.Tests.{ltb-false}
use mathlib.Core.Bool.{false, ◌||◌}
use Rattle.reading.proofs.Test.{or_left, or_right}
use Rattle.scope.specs.Limits.{max_name}
use Rattle.scope.specs.Entries.{Entry}
use Rattle.scope.specs.Lent.{entry_of, held, any_too_long}
use Rattle.scope.specs.Rows.{entry_at, all_held, earlier}
use Rattle.scope.specs.Viewed.{no_entry}
use Rattle.scope.proofs.SearchLaws.{Step}

pub held-length : (k : ℕ) (ss ns : List (List ℕ)) → k ≤ length ss → k ≤ length ns → length (held k ss ns) ≡ k
unfolding held
held-length zero ss ns h j = refl
held-length (suc k) [] ns h j = absurd (omega arith)
held-length (suc k) (s ∷ ss) [] h j = absurd (omega arith)
held-length (suc k) (s ∷ ss) (n ∷ ns) h j = ap suc (held-length k ss ns (omega arith) (omega arith))

pub held-step : (i k : ℕ) (ss ns : List (List ℕ)) → i < k → k ≤ length ss → k ≤ length ns → drop i (held k ss ns) ≡ entry_at ss ns i ∷ drop (suc i) (held k ss ns)
unfolding held
held-step i zero ss ns g h j = absurd (omega arith)
held-step i (suc k) [] ns g h j = absurd (omega arith)
held-step i (suc k) (s ∷ ss) [] g h j = absurd (omega arith)
held-step zero (suc k) (s ∷ ss) (n ∷ ns) g h j = refl
held-step (suc i) (suc k) (s ∷ ss) (n ∷ ns) g h j = held-step i k ss ns (omega arith) (omega arith) (omega arith)

-- One more entry lies before the next.
pub earlier_step : (j : ℕ) (es before : List Entry) (e : Entry) (rest : List Entry) → drop j es ≡ e ∷ rest → earlier (suc j) es before ≡ e ∷ earlier j es before
unfolding earlier
earlier_step zero [] before e rest h = absurd (none (ap length h))
  where
    none : 0 ≡ suc (length rest) → ⊥
    none z = omega arith
earlier_step zero (f ∷ es) before e rest h = let z : f ≡ e = cc in rw z
earlier_step (suc j) [] before e rest h = absurd (none (ap length h))
  where
    none : 0 ≡ suc (length rest) → ⊥
    none z = omega arith
earlier_step (suc j) (f ∷ es) before e rest h = earlier_step j es (f ∷ before) e rest h

-- Name lengths.
pub short_at : (k : ℕ) (ss : List (List ℕ)) (i : ℕ) → any_too_long k ss ≡ false → k ≤ length ss → i < k → get_or (get_or ss i []) 3 0 ≤ max_name
unfolding any_too_long
short_at zero ss i e h l = absurd (omega arith)
short_at (suc k) [] i e h l = absurd (omega arith)
short_at (suc k) (s ∷ ss) zero e h l = ltb-false max_name (get_or s 3 0) (or_left (ltb max_name (get_or s 3 0)) (any_too_long k ss) e)
short_at (suc k) (s ∷ ss) (suc i) e h l = short_at k ss i (or_right (ltb max_name (get_or s 3 0)) (any_too_long k ss) e) (omega arith) (omega arith)

module _ (ss : List (List ℕ)) (i : ℕ) where
  pub too_long_step : i < length ss → Step (any_too_long (length ss - i) (drop i ss)) (ltb max_name (get_or (get_or ss i []) 3 0)) (any_too_long (length ss - (i + 1)) (drop (i + 1) ss))
  unfolding any_too_long
  too_long_step h =
      let z : length ss - i ≡ suc (length ss - (i + 1)) = omega arith in
      record { parts = rw (z, add-one, drop-cons ss i [] h) }

  pub too_long_end : length ss ≤ i → any_too_long (length ss - i) (drop i ss) ≡ false
  unfolding any_too_long
  too_long_end h = let z : length ss - i ≡ 0 = omega arith in rw z

pub too_long_start : (ss : List (List ℕ)) → any_too_long (length ss) ss ≡ any_too_long (length ss - 0) (drop 0 ss)
too_long_start ss = let z : length ss - 0 ≡ length ss = omega arith in rw z

-- Of a front of the rows.
pub too_long_take : (k : ℕ) (ss : List (List ℕ)) → k ≤ length ss → any_too_long (length (take k ss)) (take k ss) ≡ any_too_long k ss
unfolding any_too_long
too_long_take zero ss h = refl
too_long_take (suc k) [] h = absurd (omega arith)
too_long_take (suc k) (s ∷ ss) h = ap (λ b. ltb max_name (get_or s 3 0) || b) (too_long_take k ss (omega arith))

pub held_take : (k : ℕ) (ss ns : List (List ℕ)) → k ≤ length ss → all_held (take k ss) (take k ns) ≡ held k ss ns
unfolding held
held_take zero ss ns h = refl
held_take (suc k) [] ns h = absurd (omega arith)
held_take (suc k) (s ∷ ss) [] h = refl
held_take (suc k) (s ∷ ss) (n ∷ ns) h = ap (λ es. entry_of s n ∷ es) (held_take k ss ns (omega arith))

-- The entry of paired rows at i.
pub held_at : (i k : ℕ) (ss ns : List (List ℕ)) → i < k → k ≤ length ss → k ≤ length ns → get_or (held k ss ns) i no_entry ≡ entry_at ss ns i
unfolding held
held_at i zero ss ns g h j = absurd (omega arith)
held_at i (suc k) [] ns g h j = absurd (omega arith)
held_at i (suc k) (s ∷ ss) [] g h j = absurd (omega arith)
held_at zero (suc k) (s ∷ ss) (n ∷ ns) g h j = refl
held_at (suc i) (suc k) (s ∷ ss) (n ∷ ns) g h j = held_at i k ss ns (omega arith) (omega arith) (omega arith)

module _ (ss ns : List (List ℕ)) (p : length ss ≡ length ns) where
  pub all_length : length (all_held ss ns) ≡ length ss
  all_length = held-length (length ss) ss ns (omega arith) (omega arith)

  pub all_at : (i : ℕ) → i < length ss → get_or (all_held ss ns) i no_entry ≡ entry_at ss ns i
  all_at i h = held_at i (length ss) ss ns h (omega arith) (omega arith)
