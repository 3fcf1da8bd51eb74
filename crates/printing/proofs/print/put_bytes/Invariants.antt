-- Each turn copies one cell.
use Rattle.reading.proofs.Front.{Copying}
use Rattle.printing.proofs.print.put_bytes.Given as goal

abbrev pub invariant-loop-i : goal.invariant-loop-i
invariant-loop-i l = Copying l.cells l.initial.out 0 0 l.i l.out
