-- No name passed is broken or there again.
use mathlib.Core.Path.{refl, sym, ◌∙◌, ap}
use native.Mathlib.Omega.{arith}
use Rattle.scope.specs.Rows.{all_held}
use Rattle.scope.proofs.SearchLaws.{found, missed}
use Rattle.scope.proofs.ParsedLaws.{set_step, set-end}
use Rattle.scope.proofs.broken.is_broken_set.Goals as goal
use Rattle.scope.proofs.broken.is_broken_set.Goals.{then-is_broken_name-via-then-is_broken_name, then-is_broken_name-via-else-is_broken_name+then-has_name}

pub loop-i-init : goal.loop-i-init
loop-i-init c = refl

pub returns-then-is_broken_name : goal.returns-then-is_broken_name
returns-then-is_broken_name c =
    let s = c.args.parsed in
    let step = set_step (all_held s.slots.now s.names.now) c.loop-i.i (omega arith) (ap (λ e. e.name) c.at.ensures) in
    sym (c.loop-i.invariant ∙ found step refl (elim c.then-is_broken_name.branch [
      | then-is_broken_name-via-then-is_broken_name w ↦ rw (sym c.is_broken_name.ensures ∙ w.if-is_broken_name.true)
      | then-is_broken_name-via-else-is_broken_name+then-has_name w ↦ rw (sym c.is_broken_name.ensures ∙ w.if-is_broken_name.false, sym w.has_name.ensures ∙ w.if-has_name.true)
    ]))

pub loop-i-preserved : goal.loop-i-preserved
loop-i-preserved c =
    let s = c.args.parsed in
    let step = set_step (all_held s.slots.now s.names.now) c.loop-i.i (omega arith) (ap (λ e. e.name) c.at.ensures) in
    c.loop-i.invariant ∙ missed step refl (rw (sym c.is_broken_name.ensures ∙ c.if-is_broken_name.false, sym c.has_name.ensures ∙ c.if-has_name.false))

pub returns : goal.returns
returns c =
    let s = c.args.parsed in
    sym (c.loop-i.invariant ∙ set-end (all_held s.slots.now s.names.now) c.loop-i.i (omega arith))
