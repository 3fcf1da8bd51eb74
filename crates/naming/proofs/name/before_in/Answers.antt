-- Behind the first m parts, none of which is `in`.
use native.Mathlib.Omega.{arith}
use Rattle.naming.proofs.CutLaws.{seeking_none, seeking_found, seeking_more, seeking_over}
use Rattle.naming.proofs.name.before_in.Goals as goal

pub loop-m-init : goal.loop-m-init
loop-m-init c = let k = c.args.name.counted in seeking_none _ _ _ (omega (arith, k.on, k.within))

pub returns-in_default : goal.returns-in_default
returns-in_default c = seeking_over c.loop-m.invariant c.next_part.ensures c.in_default.is

pub returns-then-is : goal.returns-then-is
returns-then-is c = seeking_found c.loop-m.invariant c.next_part.ensures (omega arith) c.in-Ok.is c.is.ensures c.if-is.true

pub loop-m-preserved : goal.loop-m-preserved
loop-m-preserved c = seeking_more c.loop-m.invariant c.next_part.ensures (omega arith) c.in-Ok.is c.is.ensures c.if-is.false
