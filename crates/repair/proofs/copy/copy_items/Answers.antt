-- There is room for one more item, as there is for all.
use Rattle.std.proofs.Common.{rules, ◌∙◌}
use native.Mathlib.Omega.{arith}
use Rattle.runs.specs.Copied.{edit_of}
use Rattle.runs.proofs.BehindLaws.{copying_room, copying_space, copying_more}
use Rattle.repair.proofs.copy.copy_items.Goals as goal

pub copy_item-at-requires : goal.copy_item-at-requires
copy_item-at-requires c =
    let b = c.loop-row.invariant.behind in
    let h = copying_room (edit_of c.args.e) c.args.old.rows.now c.args.old.store.now c.loop-row.row-index b (omega arith) c.requires.1 in
    let s = copying_space (edit_of c.args.e) c.args.old.rows.now c.args.old.store.now c.loop-row.row-index b (omega arith) c.requires.2 in
    let t = copying_space (edit_of c.args.e) c.args.old.rows.now c.args.old.store.now c.loop-row.row-index b (omega arith) c.requires.3 in
    (c.requires.0.each c.loop-row.row-index (omega arith), h, omega arith, omega (arith, b.as_long))

pub loop-row-preserved : goal.loop-row-preserved
loop-row-preserved c = record {
  behind = copying_more (edit_of c.args.e) c.args.old.rows.now c.args.old.store.now c.loop-row.row-index c.loop-row.invariant.behind (omega arith) c.copy_item-at.ensures.copied c.requires.1 c.requires.3;
  back = record { same = search rules; clean = c.copy_item-at.ensures.back.clean ∙ c.loop-row.invariant.back.clean };
}
