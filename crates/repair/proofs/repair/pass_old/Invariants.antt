-- Each row passed lies before the state, so none of them matches.
use Rattle.runs.specs.Copied.{edit_of}
use Rattle.repair.specs.Match.{Passed}
use Rattle.repair.proofs.repair.pass_old.Given as goal

abbrev pub invariant-loop-j : goal.invariant-loop-j
invariant-loop-j l = Passed (edit_of l.e) l.old_rows l.j l.p
