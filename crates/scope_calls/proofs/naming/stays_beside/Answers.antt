-- The cut, then the depth and the name.
use mathlib.Core.Path.{◌∙◌}
use Rattle.scope.specs.Viewed.{viewed}
use Rattle.scope_calls.proofs.NamingLaws.{beside_cut, beside_name, beside_deep}
use Rattle.scope_calls.proofs.naming.stays_beside.Goals as goal
use Rattle.scope_calls.proofs.naming.stays_beside.Goals.{then-e-eq0, else-e-eq0}

pub returns-else-e-cut : goal.returns-else-e-cut
returns-else-e-cut c = beside_cut c.args.cut (viewed c.args.e) c.args.name.now c.if-e-cut.false

pub returns-after-e-eq0 : goal.returns-after-e-eq0
returns-after-e-eq0 c =
    let x = c.args.name.now in
    elim c.if-e-eq0.branch [ then-e-eq0 w ↦ beside_name c.args.cut (viewed c.args.e) x c.if-e-cut.true w.if-e-eq0.true (w.result-is ∙ w.same.ensures) | else-e-eq0 w ↦ beside_deep c.args.cut (viewed c.args.e) x c.if-e-cut.true w.if-e-eq0.false w.result-is ]
