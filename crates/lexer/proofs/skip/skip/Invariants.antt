-- One record carries the reading over comments.
use Prim.Native.Nat.{◌-◌}
use lib.ListN.{length}
use Rattle.lexer.proofs.SkipLaws.{Skipping}
use Rattle.lexer.proofs.skip.skip.Given as goal

abbrev pub invariant-loop-end : goal.invariant-loop-end
invariant-loop-end l = Skipping l.rest l.i

abbrev pub decreases-loop-end : goal.decreases-loop-end
decreases-loop-end l = length l.rest - l.i
