-- By the first two characters.
use Rattle.std.proofs.Common.{sym, ◌∙◌, nat_eq, arith}
use Rattle.reading.proofs.Cell.{cell_there}
use Rattle.lexer.proofs.SkipLaws.{comment_none, comment-line, comment_block, comment_other}
use Rattle.lexer.proofs.skip.comment.Goals as goal

pub returns-then-not-is_at : goal.returns-then-not-is_at
returns-then-not-is_at c = comment_none _ _ (omega arith) c.is_at.ensures c.if-not-is_at.true

pub end_of-requires : goal.end_of-requires
end_of-requires c = omega (arith, cell_there (nat_eq 0x2F) _ _ (sym c.is_at-2.ensures ∙ c.if-is_at.true))

pub returns-then-is_at : goal.returns-then-is_at
returns-then-is_at c = comment-line _ _ (omega arith) c.is_at.ensures c.if-not-is_at.false c.is_at-2.ensures c.if-is_at.true c.end_of.ensures

pub block_end-requires : goal.block_end-requires
block_end-requires c = omega (arith, cell_there (nat_eq 0x2A) _ _ (sym c.is_at-3.ensures ∙ c.if-is_at-2.true))

pub returns-then-is_at-2 : goal.returns-then-is_at-2
returns-then-is_at-2 c = comment_block _ _ (omega arith) c.is_at.ensures c.if-not-is_at.false c.is_at-2.ensures c.if-is_at.false c.is_at-3.ensures c.if-is_at-2.true c.block_end.ensures

pub returns : goal.returns
returns c = comment_other _ _ (omega arith) c.is_at.ensures c.if-not-is_at.false c.is_at-2.ensures c.if-is_at.false c.is_at-3.ensures c.if-is_at-2.false
