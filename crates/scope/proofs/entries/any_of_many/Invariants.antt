-- No name stands twice among the entries passed, and each has left its mark.
use lib.ListN.{drop}
use Rattle.scope.proofs.MarkLaws.{Passed}
use Rattle.scope.proofs.entries.any_of_many.Given as goal

abbrev pub invariant-loop-i : goal.invariant-loop-i
invariant-loop-i g l = Passed l.taken (drop l.i (g.E.Entries.entries l.all))
