-- Behind the first parts, whose end this is.
use Rattle.naming.proofs.CutLaws.{Stepping}
use Rattle.naming.proofs.name.end_of.Given as goal

abbrev pub invariant-loop : goal.invariant-loop
invariant-loop l = Stepping l.name.rest.now l.name.from l.i l.counter
