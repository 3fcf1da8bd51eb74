-- From n parts down, those longer than m are not found and scratch is as it was.
use Rattle.naming.proofs.PrefixLaws.{searching_none, searching_clear, searching_found, searching_more, searching_end}
use mathlib.Core.Path.{refl, ◌∙◌}
use native.Mathlib.Omega.{arith}
use Rattle.naming.proofs.prefix.longest.Goals as goal

pub loop-m-init : goal.loop-m-init
loop-m-init c = searching_none _ _ _ _ _ _

pub find_parts-requires : goal.find_parts-requires
find_parts-requires c = let k = c.requires.1 in let z = c.loop-m.invariant.same in (omega arith, record { room = omega (arith, k.room); clean = searching_clear c.loop-m.invariant k.clean })

pub returns-in-Some-clause-longest : goal.returns-in-Some-clause-longest
returns-in-Some-clause-longest c = searching_found c.loop-m.invariant (omega arith) (rw c.in-Some.is at c.find_parts.ensures.asked) refl

pub returns-in-Some-clause-clean : goal.returns-in-Some-clause-clean
returns-in-Some-clause-clean c = c.find_parts.ensures.clean ∙ c.loop-m.invariant.left

pub loop-m-preserved : goal.loop-m-preserved
loop-m-preserved c = searching_more c.loop-m.invariant (omega arith) (rw c.in_default.is at c.find_parts.ensures.asked) refl c.find_parts.ensures.clean

pub returns-clause-longest : goal.returns-clause-longest
returns-clause-longest c = searching_end c.loop-m.invariant (omega arith)
