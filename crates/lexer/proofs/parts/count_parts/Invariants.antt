-- The loop stands behind the parts counted so far, and any walk from there is one from the start.
use Prim.Native.Nat.{◌-◌}
use lib.ListN.{length}
use Rattle.lexer.proofs.WalkLaws.{Passing}
use Rattle.lexer.proofs.parts.count_parts.Given as goal

abbrev pub invariant-loop-e : goal.invariant-loop-e
invariant-loop-e l = Passing l.rest l.from l.i l.parts

abbrev pub decreases-loop-e : goal.decreases-loop-e
decreases-loop-e l = length l.rest - l.i
