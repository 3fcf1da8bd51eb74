-- No entry passed is broken, so each has its parent.
use mathlib.Core.Path.{refl, sym, ◌∙◌}
use native.Mathlib.Omega.{arith}
use Rattle.scope.specs.Rows.{earlier}
use Rattle.scope.proofs.SearchLaws.{found, missed}
use Rattle.scope.proofs.BrokenLaws.{parented_more, broken_step, broken_end}
use Rattle.scope.proofs.entries.any_broken.Goals as goal

pub loop-i-init : goal.loop-i-init
unfolding earlier
loop-i-init g c = (tt, refl)

pub is_broken_at-requires-clause-parents : goal.is_broken_at-requires-clause-parents
is_broken_at-requires-clause-parents g c = c.loop-i.invariant.0

pub returns-then-is_broken_at : goal.returns-then-is_broken_at
returns-then-is_broken_at g c = sym (c.loop-i.invariant.1 ∙ found (broken_step _ c.loop-i.i refl (omega arith) c.args.most) c.is_broken_at.ensures c.if-is_broken_at.true)

pub loop-i-preserved : goal.loop-i-preserved
loop-i-preserved g c = (
  parented_more c.args.most _ c.loop-i.i refl (omega arith) (sym c.is_broken_at.ensures ∙ c.if-is_broken_at.false) c.loop-i.invariant.0,
  c.loop-i.invariant.1 ∙ missed (broken_step _ c.loop-i.i refl (omega arith) c.args.most) c.is_broken_at.ensures c.if-is_broken_at.false,
)

pub returns : goal.returns
returns g c = sym (c.loop-i.invariant.1 ∙ broken_end _ c.loop-i.i (omega arith) c.args.most _)
