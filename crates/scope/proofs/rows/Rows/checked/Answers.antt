-- Each slot passed has a length that its row has.
use mathlib.Core.Path.{refl, sym, ◌∙◌}
use native.Mathlib.Omega.{arith}
use borrow.Author.Tests.{lt-ltb, le-ltb}
use Rattle.scope.proofs.SearchLaws.{found, missed}
use Rattle.scope.proofs.HeldLaws.{too_long_step, too_long_start, too_long_end}
use Rattle.scope.proofs.rows.Rows.checked.Goals as goal

pub loop-slot-init : goal.loop-slot-init
loop-slot-init c = too_long_start c.args.slots.now

pub returns-then-slot-gt-MAX_NAME : goal.returns-then-slot-gt-MAX_NAME
returns-then-slot-gt-MAX_NAME c = (refl, c.loop-slot.invariant ∙ found (too_long_step c.args.slots.now c.loop-slot.slot-index (omega arith)) (sym (lt-ltb _ _ c.if-slot-gt-MAX_NAME.true)) refl)

pub loop-slot-preserved : goal.loop-slot-preserved
loop-slot-preserved c = c.loop-slot.invariant ∙ missed (too_long_step c.args.slots.now c.loop-slot.slot-index (omega arith)) (sym (le-ltb _ _ c.if-slot-gt-MAX_NAME.false)) refl

pub invariant_of-result : goal.invariant_of-result
invariant_of-result c = record {
  paired = c.requires;
  short = c.loop-slot.invariant ∙ too_long_end c.args.slots.now c.loop-slot.slot-index (omega arith);
}
