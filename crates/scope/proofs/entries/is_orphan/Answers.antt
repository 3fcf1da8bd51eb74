-- The entry before decides.
use mathlib.Core.Path.{sym, ◌∙◌}
use native.Mathlib.Omega.{arith}
use borrow.Author.Tests.{lt-ltb}
use Rattle.scope.specs.Viewed.{viewed}
use Rattle.scope.proofs.BrokenLaws.{orphan_deep, orphan_first, before_other, before_level, before_less, before_here}
use Rattle.scope.proofs.entries.is_orphan.Goals as goal

pub returns-then-i-eq0 : goal.returns-then-i-eq0
returns-then-i-eq0 g c = sym (orphan_deep _ c.if-e-eq0.false (orphan_first _ c.args.i (viewed c.args.e) c.if-i-eq0.true))

pub returns-then-before-e : goal.returns-then-before-e
returns-then-before-e g c = sym (orphan_deep _ c.if-e-eq0.false (before_other _ c.args.i (viewed c.args.e) (viewed c.at-before.result) c.at-before.ensures (omega arith) c.requires.0 c.if-before-e.true))

pub returns-then-e-before : goal.returns-then-e-before
returns-then-e-before g c = sym (orphan_deep _ c.if-e-eq0.false (before_level _ c.args.i (viewed c.args.e) (viewed c.at-before.result) c.at-before.ensures (omega arith) c.requires.0 c.if-before-e.false c.requires.1 (omega arith) c.if-e-before.true))

pub returns-then-before-e-2 : goal.returns-then-before-e-2
returns-then-before-e-2 g c = lt-ltb _ _ c.if-before-e-2.true ∙ sym (orphan_deep _ c.if-e-eq0.false (before_less _ c.args.i (viewed c.args.e) (viewed c.at-before.result) c.at-before.ensures (omega arith) c.requires.0 c.if-before-e.false (omega arith)))

pub returns-else-before-e-2 : goal.returns-else-before-e-2
returns-else-before-e-2 g c = rw c.from.ensures (sym (orphan_deep _ c.if-e-eq0.false (before_here _ c.args.i (viewed c.args.e) (viewed c.at-before.result) c.at-before.ensures (omega arith) c.requires.0 c.if-before-e.false (omega arith))))
