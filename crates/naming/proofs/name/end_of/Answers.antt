-- Behind the first parts, whose end this is.
use native.Mathlib.Omega.{arith}
use Rattle.naming.proofs.CutLaws.{stepping_none, stepping_more, end_over, prefix_many}
use Rattle.naming.proofs.name.end_of.Goals as goal

pub loop-init : goal.loop-init
loop-init c = let k = c.args.name.counted in stepping_none _ _ (omega (arith, k.on, k.within))

pub returns-in_default : goal.returns-in_default
returns-in_default c = end_over c.loop.invariant c.next_part.ensures c.in_default.is (omega arith) (prefix_many _ _ _ _ c.args.name.counted.count (omega arith))

pub loop-preserved : goal.loop-preserved
loop-preserved c = stepping_more c.loop.invariant c.next_part.ensures c.in-Ok.is
