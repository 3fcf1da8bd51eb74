-- The loop stands behind the parts counted so far, and any walk from there is one from the start.
use Rattle.std.proofs.Common.{arith}
use Rattle.lexer.proofs.WalkLaws.{passing_more, passing_over}
use Rattle.lexer.proofs.parts.count_parts.Goals as goal

pub loop-e-preserved : goal.loop-e-preserved
loop-e-preserved c = passing_more c.loop-e.invariant c.next_part.ensures c.in-Ok.is

pub returns-in-Err : goal.returns-in-Err
returns-in-Err c = passing_over c.loop-e.invariant c.next_part.ensures (omega arith) c.in-Err.is
