-- A place within the line stays within it, whatever is read from there.
use Rattle.std.proofs.Common.{◌≡◌, ℕ, zero, suc, ◌+◌, ◌≤◌, true, List, length, drop, arith, length-drop}
use lib.Dec.{eqb, ltb}
use Rattle.reading.specs.Look.{cell_at}
use Rattle.reading.specs.Cells.{is}
use Rattle.reading.specs.Span.{past}
use Rattle.reading.proofs.Test.{by_test}
use Rattle.reading.proofs.Cell.{cell_there}
use Rattle.reading.proofs.Passed.{passed}
use Rattle.cases.specs.Fields.{next_field, is_digit, digits_end, decimal_end, times_end, code_point_end, goes_on, code_points_end, cells_end}
use Rattle.cases.specs.Entries.{entry_end, entries_end}
use Rattle.cases.specs.After.{entry_count, first_entry, call_end}
use Rattle.cases.proofs.PlaceLaws.{next_is}

module _ (l : List ℕ) where
  abbrev In : ℕ → Type 0
  In n = n ≤ length l

  -- A byte that comes next stands within the line, and so does the place behind it.
  behind : (b i : ℕ) → is b (cell_at l i) ≡ true → In (i + 1)
  behind b i e = omega (arith, cell_there (eqb b) l i e)

  pub next_within : (i : ℕ) → In i → In (next_field l i)
  next_within i h = omega (arith, next_is (drop i l), length-drop i l)

  pub digits_within : (base i : ℕ) → In i → In (digits_end base l i)
  unfolding past
  digits_within base i h = (passed (is_digit base) l i h).within

  pub decimal_within : (i : ℕ) → In i → In (decimal_end l i)
  decimal_within i h = next_within (digits_end 10 l i) (digits_within 10 i h)

  times_within : (i : ℕ) → In i → In (times_end l i)
  times_within i h = by_test In (is 0x2a (cell_at l i)) (λ e. digits_within 16 (i + 1) (behind 0x2a i e)) (λ e. h)

  point_within : (i : ℕ) → In i → In (code_point_end l i)
  unfolding code_point_end
  point_within i h = times_within (digits_end 16 l i) (digits_within 16 i h)

  points_within : (f i : ℕ) → In i → In (code_points_end f l i)
  unfolding code_points_end
  points_within zero i h = h
  points_within (suc f) i h = by_test In (ltb i (length l))
      (λ t. by_test In (goes_on l i) (λ e. points_within f (code_point_end l i + 1) (behind 0x2c (code_point_end l i) e)) (λ e. point_within i h))
      (λ t. h)

  pub cells_within : (i : ℕ) → In i → In (cells_end l i)
  unfolding cells_end
  cells_within i h = by_test (λ n. In (next_field l n)) (is 0x2d (cell_at l i)) (λ e. next_within i h)
      (λ e. next_within (code_points_end (length l) l i) (points_within (length l) i h))

  entry_within : (i : ℕ) → In i → In (entry_end l i)
  unfolding entry_end
  entry_within i h = cells_within (decimal_end l (decimal_end l i)) (decimal_within (decimal_end l i) (decimal_within i h))

  pub entries_within : (n i : ℕ) → In i → In (entries_end n l i)
  unfolding entries_end
  entries_within zero i h = h
  entries_within (suc n) i h = entries_within n (entry_end l i) (entry_within i h)

  pub call_within : (i : ℕ) → In i → In (call_end l i)
  unfolding call_end
  call_within i h = entries_within (entry_count l i) (first_entry l i) (decimal_within (cells_end l (decimal_end l i)) (cells_within (decimal_end l i) (decimal_within i h)))
