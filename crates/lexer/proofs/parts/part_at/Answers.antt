-- A word, a symbol, or neither.
use Rattle.std.proofs.Common.{arith}
use Rattle.lexer.proofs.PartLaws.{here_word, here_symbol, here_none}
use Rattle.lexer.proofs.parts.part_at.Goals as goal

pub returns-then-holds_at : goal.returns-then-holds_at
returns-then-holds_at c = here_word _ _ c.holds_at.ensures c.if-holds_at.true c.end_of.ensures

pub returns-then-holds_at-2 : goal.returns-then-holds_at-2
returns-then-holds_at-2 c = here_symbol _ _ c.holds_at.ensures c.if-holds_at.false c.holds_at-2.ensures c.if-holds_at-2.true

pub returns : goal.returns
returns c = here_none _ _ c.holds_at.ensures c.if-holds_at.false c.holds_at-2.ensures c.if-holds_at-2.false (omega arith)
