-- One record carries the search through the rising ranges.
use Rattle.text.proofs.RangeLaws.{Searching}
use Rattle.text.proofs.classes.in_ranges.Given as goal

abbrev pub invariant-loop-first : goal.invariant-loop-first
invariant-loop-first l = Searching l.table l.c l.first-index
