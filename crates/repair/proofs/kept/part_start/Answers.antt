-- The last kept row, if there is one.
use Rattle.std.proofs.Common.{arith}
use Rattle.std.proofs.lemmas.Grind.{common_steps}
use Rattle.repair.proofs.KeptLaws.{kept_rows, part-at-start, part-at-row}
use Rattle.repair.proofs.kept.part_start.Goals as goal

pub returns-in-Some : goal.returns-in-Some
returns-in-Some c =
    let k = kept_rows c.args.from c.args.rows.now c.count_kept.ensures in
    let h = c.in-Some.ensures.item in
    part-at-row k (grind (arith, common_steps, h)) (grind (arith, common_steps, k.within, h)) (grind (arith, common_steps))

pub returns-in-None : goal.returns-in-None
returns-in-None c =
    let k = kept_rows c.args.from c.args.rows.now c.count_kept.ensures in
    part-at-start k (grind (arith, common_steps, k.within, c.in-None.ensures.item))
