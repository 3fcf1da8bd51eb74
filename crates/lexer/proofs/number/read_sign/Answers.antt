-- By the one cell looked at.
use Rattle.std.proofs.Common.{arith}
use Rattle.lexer.proofs.NumberLaws.{sign_plus, sign_other}
use Rattle.lexer.proofs.number.read_sign.Goals as goal

pub returns-then-is_at : goal.returns-then-is_at
returns-then-is_at c = sign_plus _ _ c.is_at.ensures c.if-is_at.true

pub returns : goal.returns
returns c = rw c.from.ensures (sign_other _ _ c.is_at.ensures c.if-is_at.false c.is_at-minus.result c.is_at-minus.ensures (omega arith))
