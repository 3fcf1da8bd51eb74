-- No name passed is the one looked for.
use mathlib.Core.Path.{refl, sym, ◌∙◌, ap}
use native.Mathlib.Omega.{arith}
use Rattle.names.specs.Same.{same}
use Rattle.scope.specs.Rows.{all_held}
use Rattle.scope.proofs.SearchLaws.{found, missed}
use Rattle.scope.proofs.ParsedLaws.{member-step, member-end}
use Rattle.scope.proofs.rows.Rows.has_name.Goals as goal

pub loop-i-init : goal.loop-i-init
loop-i-init c = refl

pub returns-then-same : goal.returns-then-same
returns-then-same c =
    let s = c.args.self in
    let n = c.args.name.now in
    sym (c.loop-i.invariant ∙ found (member-step (all_held s.slots.now s.names.now) c.loop-i.i (omega arith) n) (c.same.ensures ∙ ap (λ e. same e.name n) c.at.ensures) c.if-same.true)

pub loop-i-preserved : goal.loop-i-preserved
loop-i-preserved c =
    let s = c.args.self in
    let n = c.args.name.now in
    c.loop-i.invariant ∙ missed (member-step (all_held s.slots.now s.names.now) c.loop-i.i (omega arith) n) (c.same.ensures ∙ ap (λ e. same e.name n) c.at.ensures) c.if-same.false

pub returns : goal.returns
returns c =
    let s = c.args.self in
    sym (c.loop-i.invariant ∙ member-end (all_held s.slots.now s.names.now) c.loop-i.i (omega arith) c.args.name.now)
