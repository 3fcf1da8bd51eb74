-- One record carries the characters so far.
use Rattle.std.proofs.Common.{arith}
use Rattle.std.proofs.lemmas.Bool.Decides.{nat_tests}
use Rattle.text.proofs.Utf8Loops.{going_more, count_bad, count-all}
use Rattle.text.proofs.utf8.count_chars.Goals as goal

pub loop-k-preserved : goal.loop-k-preserved
loop-k-preserved c = going_more c.loop-k.invariant c.in-Some.ensures.within c.in-Some.ensures.sequence

pub returns-then-is_empty : goal.returns-then-is_empty
returns-then-is_empty c = count-all c.loop-k.invariant (let h = c.if-is_empty.ensures in grind (arith, nat_tests))

pub returns-else-is_empty : goal.returns-else-is_empty
returns-else-is_empty c = count_bad c.loop-k.invariant (let h = c.if-is_empty.ensures in grind (arith, nat_tests)) c.in_default.ensures.sequence
