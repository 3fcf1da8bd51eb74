-- 13, then the three checks, then the repaired items.
use mathlib.Core.Path.{sym, ap, ◌∙◌}
use native.Mathlib.Omega.{arith}
use Rattle.std.proofs.lemmas.Result.{err_from_is_err_and}
use Rattle.scope.specs.Lent.{scope_of}
use Rattle.repair.specs.Asking.{request_of}
use Rattle.repair.proofs.RepairCodeLaws.{new-length_small}
use Rattle.repair.proofs.RepairCallLaws.{repair_refused, repair_made}
use Rattle.repair.proofs.repair.repair.Goals as goal

pub returns-in_err-sound-clause-repaired : goal.returns-in_err-sound-clause-repaired
returns-in_err-sound-clause-repaired c =
    let p = err_from_is_err_and c.from_residual.result c.from_residual.ensures.1 in
    let whole = sym c.is_broken.ensures ∙ c.if-is_broken.false in
    rw (p.1, p.2) (repair_refused _ (request_of c.args.request) _ _ _ c.clear.ensures whole _ c.in_err-sound.ensures.answer)

pub overflow_add-from : goal.overflow_add-from
overflow_add-from c = omega (arith, new-length_small (request_of c.args.request) (sym c.is_broken.ensures ∙ c.if-is_broken.false))

pub overflow_add-request : goal.overflow_add-request
overflow_add-request c = omega (arith, new-length_small (request_of c.args.request) (sym c.is_broken.ensures ∙ c.if-is_broken.false))

pub returns-clause-repaired : goal.returns-clause-repaired
returns-clause-repaired c =
    let whole = sym c.is_broken.ensures ∙ c.if-is_broken.false in
    let b = rw (ap scope_of c.in_ok-sound.ensures.scope) at c.put_items.ensures.behind in
    repair_made _ (request_of c.args.request) _ _ _ c.clear.ensures whole c.in_ok-sound.ensures.answer b c.put_items.ensures.back.clean
