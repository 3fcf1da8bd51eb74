-- The contexts passed lie between the one before them and the count.
use mathlib.Core.Path.{refl, sym, ◌∙◌}
use native.Mathlib.Omega.{arith}
use Rattle.scope.proofs.BrokenLaws.{misplaced_here, misplaced_more, misplaced_end}
use Rattle.scope.proofs.entries.any_misplaced.Goals as goal

pub loop-i-init : goal.loop-i-init
loop-i-init g c = refl

pub returns-then-context-low : goal.returns-then-context-low
returns-then-context-low g c = sym (c.loop-i.invariant ∙ misplaced_here _ c.loop-i.i c.at.ensures (omega arith) c.args.contexts c.loop-i.low c.then-context-low.either)

pub loop-i-preserved : goal.loop-i-preserved
loop-i-preserved g c = c.loop-i.invariant ∙ misplaced_more _ c.loop-i.i c.at.ensures (omega arith) c.args.contexts c.loop-i.low c.if-context-low.false c.if-contexts-context.false

pub returns : goal.returns
returns g c = sym (c.loop-i.invariant ∙ misplaced_end _ c.loop-i.i (omega arith) c.args.contexts c.loop-i.low)
