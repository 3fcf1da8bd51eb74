-- Skipping stays in the text and asks at most one cell behind it: by the rules of Ensures, for any two fuels above the text's length.
use Rattle.std.specs.Prelude.{Option, None, Some}
use mathlib.Core.Bool.{◌&&◌}
use mathlib.Core.List.{List}
use Prim.Native.Nat.{ℕ, zero, suc, ◌+◌, ◌-◌, ◌≤◌, ◌<◌}
use native.Mathlib.Nat.{not-suc-le-zero}
use native.Mathlib.Omega.{arith}
use lib.Dec.{eqb}
use lib.ListN.{length}
use Rattle.reading.specs.Look.{cell_at, done}
use Rattle.reading.specs.Cells.{maybe, is}
use Rattle.reading.proofs.Test.{both}
use Rattle.reading.proofs.Cell.{cell_there}
use Rattle.reading.proofs.Passed.{Passed}
use Rattle.reading.proofs.Ensures.{Ensures, answers, asks, asks_cell, binds, tests, gathers}
use Rattle.text.specs.Classes.{is_whitespace}
use Rattle.lexer.specs.Skip.{is_in_line, block_end, blanks, comment, skip_from, skip}

-- No cell further than this is asked for: the window of twelve reaches furthest.
abbrev pub far : List ℕ → ℕ
far t = length t + 12

block_ends : (t : List ℕ) (lo k k' i : ℕ) → lo ≤ i → i ≤ length t → length t - i < k → length t - i < k'
    → Ensures t (far t) (λ j. (lo ≤ j) × (j ≤ length t)) (block_end k i) (block_end k' i)
unfolding block_end
block_ends t lo zero k' i h g e e' = absurd (not-suc-le-zero e)
block_ends t lo (suc k) zero i h g e e' = absurd (not-suc-le-zero e')
block_ends t lo (suc k) (suc k') i h g e e' = asks_cell (omega arith) (λ _. answers (h, g)) (λ c _ l. tests (eqb 0x2A c)
    (λ _. asks (omega arith) (tests (is 0x2F (cell_at t (i + 1))) (λ d. let m = cell_there (eqb 0x2F) t (i + 1) d in answers (omega arith)) (λ _. block_ends t lo k k' (i + 1) (omega arith) (omega arith) (omega arith) (omega arith))))
    (λ _. block_ends t lo k k' (i + 1) (omega arith) (omega arith) (omega arith) (omega arith)))

module _ (t : List ℕ) (f f' : ℕ) (enough : length t < f) (enough' : length t < f') where
  pub blanks_pass : (i : ℕ) → i ≤ length t → Ensures t (far t) (Passed is_whitespace t i) (blanks f i) (blanks f' i)
  blanks_pass i h = binds (gathers is_whitespace t (far t) f f' i h (omega arith) (omega arith) (omega arith)) (λ r k. answers k.run_ends)

  -- A comment, if there is one, ends behind its first two characters.
  abbrev Behind : ℕ → Option ℕ → Type 0
  Behind i None = Unit
  Behind i (Some j) = (i < j) × (j ≤ length t)

  comments : (i : ℕ) → i ≤ length t → Ensures t (far t) (Behind i) (comment f i) (comment f' i)
  comments i h = asks (omega arith) (asks (omega arith) (tests (is 0x2F (cell_at t i) && is 0x2F (cell_at t (i + 1)))
      (λ g. let m = cell_there _ t (i + 1) (both (is 0x2F (cell_at t i)) _ g).1 in
      binds (gathers is_in_line t (far t) f f' (i + 2) (omega arith) (omega arith) (omega arith) (omega arith)) (λ r k. answers (let d = k.run_ends.from in (omega arith, k.run_ends.within))))
      (λ _. tests (is 0x2F (cell_at t i) && is 0x2A (cell_at t (i + 1)))
      (λ g. let m = cell_there _ t (i + 1) (both (is 0x2F (cell_at t i)) _ g).1 in
      binds (block_ends t (i + 2) f f' (i + 2) (omega arith) (omega arith) (omega arith) (omega arith)) (λ j k. answers (omega arith, k.1)))
      (λ _. answers tt))))

  skips_from : (k k' i : ℕ) → i ≤ length t → length t - i < k → length t - i < k' → Ensures t (far t) (λ j. j ≤ length t) (skip_from f k i) (skip_from f' k' i)
  unfolding skip_from
  skips_from zero k' i h e e' = absurd (not-suc-le-zero e)
  skips_from (suc k) zero i h e e' = absurd (not-suc-le-zero e')
  skips_from (suc k) (suc k') i h e e' = binds (blanks_pass i h) (λ j d. binds (comments j d.within) (λ c g. next j d c g (λ m l. skips_from k k' m l.1 (omega arith) (omega arith))))
    where
      next : (j : ℕ) → Passed is_whitespace t i j → (c : Option ℕ) → Behind j c → ((m : ℕ) → (i < m) × (m ≤ length t) → Ensures t (far t) (λ j. j ≤ length t) (skip_from f k m) (skip_from f' k' m))
          → Ensures t (far t) (λ j. j ≤ length t) (maybe c (done j) (λ m. skip_from f k m)) (maybe c (done j) (λ m. skip_from f' k' m))
      next j d None g again = answers d.within
      next j d (Some m) g again = again m (let l = d.from in omega arith)

  pub skips : Ensures t (far t) (λ j. j ≤ length t) (skip f) (skip f')
  skips = skips_from f f' 0 (omega arith) (omega arith) (omega arith)
