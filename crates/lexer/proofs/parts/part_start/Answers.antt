-- A word, a symbol, or what follows the whitespace.
use Rattle.std.proofs.Common.{arith}
use Rattle.lexer.proofs.PartLaws.{start_word, start-symbol, start_space}
use Rattle.lexer.proofs.parts.part_start.Goals.{then-holds_at-via-then-holds_at, then-holds_at-via-else-holds_at+then-holds_at-2}
use Rattle.lexer.proofs.parts.part_start.Goals as goal

pub returns-then-holds_at : goal.returns-then-holds_at
returns-then-holds_at c = elim c.then-holds_at.branch [
  | then-holds_at-via-then-holds_at w ↦ start_word _ _ c.holds_at.ensures w.if-holds_at.true (omega arith)
  | then-holds_at-via-else-holds_at+then-holds_at-2 w ↦ start-symbol _ _ c.holds_at.ensures w.if-holds_at.false w.holds_at-else-holds_at.ensures w.if-holds_at-2.true (omega arith)
]

pub returns : goal.returns
returns c = start_space _ _ c.holds_at.ensures c.if-holds_at.false c.holds_at-else-holds_at.ensures c.if-holds_at-2.false c.end_of.ensures
