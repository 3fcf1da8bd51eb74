-- Without a point, with one before no digit, or with digits behind it.
use native.Mathlib.Omega.{arith}
use mathlib.Core.Path.{sym, ◌∙◌}
use Rattle.reading.proofs.Cell.{cell_there}
use Rattle.text.specs.Classes.{is_digit}
use Rattle.lexer.proofs.NumberLaws.{number_whole, number-point, number-after}
use Rattle.lexer.proofs.number.read_number.Goals as goal

pub returns-then-not-is_at : goal.returns-then-not-is_at
returns-then-not-is_at c = rw c.with.ensures (number_whole _ _ (omega arith) c.end_of-before.ensures c.is_at.ensures c.if-not-is_at.true c.read_exponent.ensures)

pub returns-then-not-holds_at : goal.returns-then-not-holds_at
returns-then-not-holds_at c = number-point _ _ (omega arith) c.end_of-before.ensures c.is_at.ensures c.if-not-is_at.false c.holds_at.ensures c.if-not-holds_at.true

pub end_of-after-requires : goal.end_of-after-requires
end_of-after-requires c = let l = cell_there is_digit _ _ (sym c.holds_at.ensures ∙ c.if-not-holds_at.false) in omega arith

pub returns : goal.returns
returns c = rw c.with-2.ensures (number-after _ _ (omega arith) c.end_of-before.ensures c.is_at.ensures c.if-not-is_at.false c.holds_at.ensures c.if-not-holds_at.false c.end_of-after.ensures c.read_exponent-2.ensures)
