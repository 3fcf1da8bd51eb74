-- One record carries the reading over comments.
use Rattle.std.proofs.Common.{arith}
use Rattle.lexer.proofs.SkipLaws.{skipping_none, skipping_more, skipping_end}
use Rattle.lexer.proofs.skip.skip.Goals as goal

pub loop-end-init : goal.loop-end-init
loop-end-init c = skipping_none (omega arith) c.end_of-i.ensures

pub returns : goal.returns
returns c = (skipping_end (omega arith) c.loop-end.invariant c.in_default.ensures, omega arith)

pub loop-end-preserved : goal.loop-end-preserved
loop-end-preserved c = skipping_more (omega arith) c.loop-end.invariant c.in-Some.ensures c.end_of-i-in-Some.ensures
