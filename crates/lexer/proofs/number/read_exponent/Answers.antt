-- With the letter or without it.
use native.Mathlib.Omega.{arith}
use mathlib.Core.Path.{sym, ◌∙◌}
use Rattle.lexer.proofs.NumberLaws.{letter_there, exponent_none, exponent_some}
use Rattle.lexer.proofs.number.read_exponent.Goals as goal

pub returns-then-not-exponent_letter_at : goal.returns-then-not-exponent_letter_at
returns-then-not-exponent_letter_at c = exponent_none _ _ (omega arith) c.exponent_letter_at.ensures c.if-not-exponent_letter_at.true (omega arith)

pub read_sign-sign-requires : goal.read_sign-sign-requires
read_sign-sign-requires c = omega (arith, letter_there _ _ (sym c.exponent_letter_at.ensures ∙ c.if-not-exponent_letter_at.false))

pub returns : goal.returns
returns c = exponent_some _ _ (omega arith) c.exponent_letter_at.ensures c.if-not-exponent_letter_at.false c.read_sign-sign.ensures c.end_of.ensures
