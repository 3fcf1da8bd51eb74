-- The code's item of a reading has the numbers of the definitions' item.
use mathlib.Core.Path.{◌≡◌, refl}
use mathlib.Core.Bool.{true}
use mathlib.Core.List.{List}
use Prim.Native.Nat.{ℕ, ◌≤◌}
use native.Mathlib.Omega.{arith}
use borrow.Author.Tests.{eqb-true}
use lib.Dec.{eqb}
use lib.ListN.{get_or}
use Rattle.lexer.specs.Read.{Read, token, refused, nothing, truth, number, chars, is_last, ends, has_form}
use Rattle.lexer.specs.FlagsOf.{flags_of}
use Rattle.lexer.specs.Taken.{coded}
use Rattle.lexer.specs.TokenType
use Rattle.lexer.specs.declared.flags.Flags.{Flags}
use Rattle.lexer.specs.Answered.{Told, plain, boolean, numeric, letters, broken, cell_count}
use Rattle.lexer.proofs.AnsweredLaws.{three}
use Rattle.runs.specs.Item.{item}
use Rattle.runs.specs.Record.{row_of, refused_at, number_at}
use Rattle.runs.specs.Coded.{lengths_from, row_told}

-- A number's lengths are no more than its value's cells.
pub lengths_within : (a : Told) → ((lengths_from a).before ≤ cell_count a) × ((lengths_from a).after ≤ cell_count a) × ((lengths_from a).exponent ≤ cell_count a)
lengths_within (plain k) = (omega arith, omega arith, omega arith)
lengths_within (boolean b) = (omega arith, omega arith, omega arith)
lengths_within (numeric before after minus exponent) = (omega arith, omega arith, omega arith)
lengths_within (letters k n) = (omega arith, omega arith, omega arith)
lengths_within (broken n c) = (omega arith, omega arith, omega arith)

module _ (p : ℕ) (f : Flags) (q : ℕ) (start : ℕ) where
  -- The row of what was read.
  abbrev pub row_with : Told → List ℕ
  row_with a = row_told start a p (flags_of f) q

  pub row_is : (read : Read) → has_form read ≡ true → row_with (coded read) ≡ row_of start (item read p (flags_of f) q)
  row_is (token k nothing) h = refl
  row_is (token k (truth b)) h = rw (eqb-true TokenType.Boolean k h)
  row_is (token k (number before after minus exponent)) h = rw (eqb-true TokenType.Numeric k h, three)
  row_is (token k (chars cs)) h = refl
  row_is (refused n c) h = refl

  pub ends_is : (read : Read) → has_form read ≡ true → is_last (eqb (get_or (row_with (coded read)) refused_at 0) 1) (get_or (row_with (coded read)) number_at 0) ≡ ends read
  ends_is (token k nothing) h = refl
  ends_is (token k (truth b)) h = rw (← eqb-true TokenType.Boolean k h)
  ends_is (token k (number before after minus exponent)) h = rw (← eqb-true TokenType.Numeric k h)
  ends_is (token k (chars cs)) h = refl
  ends_is (refused n c) h = refl
