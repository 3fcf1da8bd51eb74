-- The loop has added up what the first m parts hold; the part that passes the cap ends it.
use Rattle.std.proofs.Common.{arith}
use Rattle.lexer.proofs.BoundLaws.{bounding_over, bounding_more}
use Rattle.lexer.proofs.bound.bound.Goals as goal

pub returns-then-cap-total : goal.returns-then-cap-total
returns-then-cap-total c = bounding_over c.loop-m.invariant c.next_part.ensures c.in-Ok.is (omega arith) (c.ink_of-total.ensures.ink, c.ink_of-total.ensures.within) (omega arith)

pub loop-m-preserved : goal.loop-m-preserved
loop-m-preserved c = bounding_more c.loop-m.invariant c.next_part.ensures c.in-Ok.is (omega arith) (c.ink_of-total.ensures.ink, c.ink_of-total.ensures.within)
