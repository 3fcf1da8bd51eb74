-- One record carries the passes so far.
use Rattle.names.proofs.FlattenLaws.{Passing}
use Rattle.names.proofs.flatten.flatten.Given as goal

abbrev pub invariant-loop-s : goal.invariant-loop-s
invariant-loop-s l = Passing l.initial.cells l.s-index l.from l.end l.cells
