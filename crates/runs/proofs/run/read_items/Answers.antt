-- One more item is read.
use Rattle.std.proofs.Common.{rules, ◌∙◌}
use borrow.Author.Tests.{not-true}
use Rattle.runs.proofs.RanLaws.{stands_more}
use Rattle.runs.proofs.run.read_items.Goals as goal

pub loop-at-preserved : goal.loop-at-preserved
loop-at-preserved c = record {
  stands = stands_more c.loop-at.invariant.stands (rw c.of-known.ensures at c.read_item-at.ensures.next) (not-true _ c.loop-at-test.true) c.requires.1 c.requires.2;
  back = record { same = search rules; clean = c.read_item-at.ensures.back.clean ∙ c.loop-at.invariant.back.clean };
}
