-- One record carries the characters so far and the output's front.
use Rattle.text.proofs.Utf8Loops.{Writing}
use Rattle.text.proofs.utf8.write_chars.Given as goal

abbrev pub invariant-loop-cell : goal.invariant-loop-cell
invariant-loop-cell l = Writing l.bytes l.initial.out l.out l.rest l.cell-index
