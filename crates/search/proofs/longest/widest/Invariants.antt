-- The numbers cover the names of the entries passed, and each is the most that one of them adds at its depth.
use Rattle.scope.specs.Sound.{rows_entries}
use Rattle.search.proofs.WidthLaws.{Seen, Widths}
use Rattle.search.proofs.longest.widest.Given as goal

abbrev pub invariant-loop-i : goal.invariant-loop-i
invariant-loop-i l = record {
  seen : Seen (rows_entries l.entries) l.i l.widest;
  widths : Widths (rows_entries l.entries) l.i l.widest;
}
