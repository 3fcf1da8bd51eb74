-- One record carries what is written and what is left to read.
use Rattle.std.proofs.Common.{◌-◌, length}
use Rattle.names.proofs.TightenLaws.{Tightening}
use Rattle.names.proofs.flatten.tighten.Given as goal

abbrev pub invariant-loop-i : goal.invariant-loop-i
invariant-loop-i l = Tightening l.s l.initial.cells l.from (length l.initial.cells) l.i l.k l.cells

abbrev pub decreases-loop-i : goal.decreases-loop-i
decreases-loop-i l = length l.cells - l.i
