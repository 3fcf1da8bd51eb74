-- No entry passed ends the level or has the name.
use mathlib.Core.Path.{refl, sym, ◌∙◌}
use native.Mathlib.Omega.{arith}
use Rattle.scope.specs.Viewed.{viewed}
use Rattle.scope.proofs.SearchLaws.{found, missed}
use Rattle.scope.proofs.BrokenLaws.{again_ends, again_step, again_end}
use Rattle.scope.proofs.entries.is_repeated.Goals as goal

pub loop-j-init : goal.loop-j-init
loop-j-init g c = refl

pub returns-then-ends_level : goal.returns-then-ends_level
returns-then-ends_level g c = sym (c.loop-j.invariant ∙ again_ends _ c.loop-j.j c.at-behind.ensures (omega arith) (viewed c.args.e) c.ends_level.ensures c.if-ends_level.true)

pub returns-then-is_same : goal.returns-then-is_same
returns-then-is_same g c = sym (c.loop-j.invariant ∙ found (again_step _ c.loop-j.j c.at-behind.ensures (omega arith) (viewed c.args.e) c.ends_level.ensures c.if-ends_level.false) c.is_same.ensures c.if-is_same.true)

pub loop-j-preserved : goal.loop-j-preserved
loop-j-preserved g c = c.loop-j.invariant ∙ missed (again_step _ c.loop-j.j c.at-behind.ensures (omega arith) (viewed c.args.e) c.ends_level.ensures c.if-ends_level.false) c.is_same.ensures c.if-is_same.false

pub returns : goal.returns
returns g c = sym (c.loop-j.invariant ∙ again_end _ c.loop-j.j (omega arith) (viewed c.args.e))
