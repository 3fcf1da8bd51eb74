-- Behind the first m parts, none of which is `in`.
use Rattle.naming.proofs.CutLaws.{Seeking}
use Rattle.naming.proofs.name.before_in.Given as goal

abbrev pub invariant-loop-m : goal.invariant-loop-m
invariant-loop-m l = Seeking l.name.rest.now l.name.from l.name.parts l.i l.m
