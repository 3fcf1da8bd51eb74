-- What every reader of a part of a token promises of its answer.
use mathlib.Core.Path.{◌≡◌, sym, ◌∙◌}
use mathlib.Core.Bool.{true, false, true≢false}
use Prim.Native.Nat.{ℕ, ◌≤◌}
use native.Mathlib.Omega.{arith}
use lib.ListN.{length}
use Rattle.lexer.specs.Read.{Read, cells_of, ends, has_form}

-- Read up to j in a text of n cells: within the text, with a value no longer than what was used, up to lo at least unless it ends the run, and with a value of its type's form.
pub record Fine (n lo : ℕ) (r : Read) (j : ℕ) : Type 0 where
  pub in_text : j ≤ n
  pub short : length (cells_of r) ≤ j
  pub onward : ends r ≡ false → lo ≤ j
  pub formed : has_form r ≡ true

-- A reading that ends the run has no value and need not advance.
pub over : (n lo : ℕ) {r : Read} (j : ℕ) → ends r ≡ true → length (cells_of r) ≡ 0 → has_form r ≡ true → j ≤ n → Fine n lo r j
over n lo j e s g h = record { in_text = h; short = omega arith; onward = λ f. absurd (true≢false (sym e ∙ f)); formed = g }

pub fine : (n lo : ℕ) {r : Read} (j : ℕ) → j ≤ n → length (cells_of r) ≤ j → lo ≤ j → has_form r ≡ true → Fine n lo r j
fine n lo j h s l g = record { in_text = h; short = s; onward = λ _. l; formed = g }

-- A bound that is reached may be lowered.
pub lower : {n lo : ℕ} (lo' : ℕ) {r : Read} {j : ℕ} → Fine n lo r j → lo' ≤ lo → Fine n lo' r j
lower lo' h l = record { in_text = h.in_text; short = h.short; onward = λ e. let z = h.onward e in omega arith; formed = h.formed }
