-- The rows passed are written.
use lib.ListN.{take}
use Rattle.runs.specs.Copied.{edit_of, moved_items, Behind}
use Rattle.runs.specs.Lending.{Returned}
use Rattle.repair.proofs.copy.copy_items.Given as goal

abbrev pub invariant-loop-row : goal.invariant-loop-row
invariant-loop-row l = record {
  behind : Behind l.fn.written.items l.fn.written.cells l.fn.room.rows.now l.fn.room.store.now (moved_items (edit_of l.e) (take l.row-index l.old.rows.now) l.old.store.now) l.at.items l.at.cells l.room.rows.now l.room.store.now;
  back : Returned l.fn.room l.room;
}
