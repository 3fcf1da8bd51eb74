-- The three checks, then the run behind its last item.
use mathlib.Core.Path.{ap}
use Rattle.std.proofs.lemmas.Result.{err_from_is_err_and}
use Rattle.scope.specs.Lent.{scope_of}
use Rattle.runs.proofs.RunCallLaws.{run_refused, run_made}
use Rattle.runs.proofs.run.run.Goals as goal

pub returns-in_err-sound-clause-ran : goal.returns-in_err-sound-clause-ran
returns-in_err-sound-clause-ran c =
    let p = err_from_is_err_and c.from_residual.result c.from_residual.ensures.1 in
    rw (p.1, p.2) (run_refused _ _ _ _ _ _ _ c.clear.ensures _ c.in_err-sound.ensures.answer)

pub returns-clause-ran : goal.returns-clause-ran
returns-clause-ran c =
    let b = rw (ap scope_of c.in_ok-sound.ensures.scope) at c.read_items.ensures.ran in
    run_made _ _ _ _ _ _ _ c.clear.ensures c.in_ok-sound.ensures.answer b c.read_items.ensures.back.clean
