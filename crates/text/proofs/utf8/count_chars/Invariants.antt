-- One record carries the characters so far.
use lib.ListN.{length}
use Rattle.text.proofs.Utf8Loops.{Going}
use Rattle.text.proofs.utf8.count_chars.Given as goal

abbrev pub invariant-loop-k : goal.invariant-loop-k
invariant-loop-k l = Going l.bytes l.rest l.n

abbrev pub decreases-loop-k : goal.decreases-loop-k
decreases-loop-k l = length l.rest
