-- No name stands twice among the entries passed, and each has left its mark. The mark is that of the entry before i, whose name is looked for where the mark is taken.
use mathlib.Core.Path.{◌≡◌, refl, sym, ◌∙◌}
use mathlib.Core.Bool.{true≢false}
use native.Mathlib.Omega.{arith}
use Rattle.scope.proofs.MarkLaws.{passed_start, passed_more, passed_twice}
use Rattle.scope.proofs.entries.any_of_many.Goals as goal
use Rattle.scope.proofs.entries.any_of_many.Goals.{else-taken-mark-via-then-taken-mark+else-is_repeated, else-taken-mark-via-else-taken-mark}

pub loop-i-init : goal.loop-i-init
loop-i-init g c = passed_start _ (g.E.Entries.entries c.args.all.now) c.count-i.result refl (omega arith)

pub returns-then-is_repeated : goal.returns-then-is_repeated
returns-then-is_repeated g c = sym (passed_twice _ c.loop-i.i c.at-e.ensures (omega arith) (omega arith) (sym c.is_repeated.ensures ∙ c.if-is_repeated.true))

pub loop-i-preserved : goal.loop-i-preserved
loop-i-preserved g c = passed_more _ c.loop-i.i c.at-e.ensures (omega arith) (omega arith) c.mark-mark.result c.loop-i.invariant c.mark-mark.ensures.0 c.mark-mark.ensures.1 (elim c.else-taken-mark.branch [
  | else-taken-mark-via-then-taken-mark+else-is_repeated w ↦ λ t. sym w.is_repeated.ensures ∙ w.if-is_repeated.false
  | else-taken-mark-via-else-taken-mark w ↦ λ t. absurd (true≢false (sym t ∙ w.if-taken-mark.false))
])

pub returns : goal.returns
returns g c = let z : c.loop-i.i ≡ 0 = omega arith in sym (rw z at c.loop-i.invariant.none)
