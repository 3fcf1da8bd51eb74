-- One record carries the reading through the inside.
use Rattle.lexer.proofs.SkipLaws.{closing_none, closing_more, closing_found, closing_end}
use Rattle.std.proofs.Common.{◌≡◌, length, arith}
use Rattle.lexer.proofs.skip.block_end.Goals as goal

pub loop-i-init : goal.loop-i-init
loop-i-init c = closing_none _ _ (omega arith)

pub returns-then-ends_at : goal.returns-then-ends_at
returns-then-ends_at c = closing_found c.loop-i.invariant (omega arith) (omega arith) c.ends_at.ensures c.if-ends_at.true

pub loop-i-preserved : goal.loop-i-preserved
loop-i-preserved c = closing_more c.loop-i.invariant (omega arith) (omega arith) c.ends_at.ensures c.if-ends_at.false

pub returns : goal.returns
returns c = let e : c.loop-i.i ≡ length c.args.rest.now = omega arith in rw e at (closing_end c.loop-i.invariant (omega arith) (omega arith))
