-- No entry passed has its name again.
use mathlib.Core.Path.{refl, sym, ◌∙◌}
use native.Mathlib.Omega.{arith}
use Rattle.scope.proofs.SearchLaws.{found, missed}
use Rattle.scope.proofs.BrokenLaws.{repeated_step, repeated_end}
use Rattle.scope.proofs.entries.any_of_few.Goals as goal

pub loop-i-init : goal.loop-i-init
loop-i-init g c = refl

pub returns-then-is_repeated : goal.returns-then-is_repeated
returns-then-is_repeated g c = sym (c.loop-i.invariant ∙ found (repeated_step _ c.loop-i.i c.at.ensures (omega arith)) c.is_repeated.ensures c.if-is_repeated.true)

pub loop-i-preserved : goal.loop-i-preserved
loop-i-preserved g c = c.loop-i.invariant ∙ missed (repeated_step _ c.loop-i.i c.at.ensures (omega arith)) c.is_repeated.ensures c.if-is_repeated.false

pub returns : goal.returns
returns g c = sym (c.loop-i.invariant ∙ repeated_end _ c.loop-i.i (omega arith))
