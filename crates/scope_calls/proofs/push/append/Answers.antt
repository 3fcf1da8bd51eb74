-- The entries passed that stay are written.
use Rattle.std.proofs.Common.{rules, [], ◌≤◌, ◌<◌, length}
use Rattle.scope_calls.proofs.AppendLaws.{stays_as}
use native.Mathlib.Omega.{arith}
use Rattle.scope.specs.Limits.{max_depth}
use Rattle.lists.specs.List.{entries_of}
use Rattle.scope.proofs.BrokenLaws.{Ranged, ranged}
use Rattle.scope.proofs.SoundLaws.{short_name}
use Rattle.scope.specs.Viewed.{viewed}
use Rattle.scope_calls.proofs.AppendLaws.{going_all, going_more, going_room, put_none, put_one}
use Rattle.scope_calls.proofs.push.append.Goals as goal
use Rattle.scope_calls.proofs.push.append.Goals.{then-kept, else-kept}

pub overflow_add-raised : goal.overflow_add-raised
overflow_add-raised c =
    let es = entries_of c.args.list in
    let r : Ranged max_depth (viewed c.at-e.result) = rw c.at-e.ensures (ranged max_depth [] es c.requires.0 c.loop-i.i (omega arith)) in
    omega (arith, r.shallow)

pub put-requires : goal.put-requires
put-requires c =
    let es = entries_of c.args.list in
    let h : c.loop-i.i < length es = omega arith in
    let r : Ranged max_depth (viewed c.at-e.result) = rw c.at-e.ensures (ranged max_depth [] es c.requires.0 c.loop-i.i h) in
    let g = c.loop-i.invariant.going in
    let q = going_room g h c.at-e.ensures (stays_as es _ c.loop-i.i c.loop-i.cut c.at-e.ensures c.stays-kept.ensures) c.if-kept.true in
    (omega (arith, q, g.appended.as_many_slots), omega (arith, q, g.appended.as_many_names), short_name c.at-e.result.name.now r.named)

pub loop-i-preserved : goal.loop-i-preserved
loop-i-preserved c =
    let es = entries_of c.args.list in
    let h : c.loop-i.i < length es = omega arith in
    let g = c.loop-i.invariant.going in
    let q = stays_as es _ c.loop-i.i c.loop-i.cut c.at-e.ensures c.stays-kept.ensures in
    let e = viewed c.at-e.result in
    elim c.if-kept.branch [
      | then-kept w ↦ record { going = going_more g h c.at-e.ensures q c.cut_after-cut.ensures (rw (w.rows-is, w.at-is) (put_one c.loop-i.at c.args.up e w.if-kept.true w.put.ensures.written)); same = search rules }
      | else-kept w ↦ record { going = going_more g h c.at-e.ensures q c.cut_after-cut.ensures (rw (w.rows-is, w.at-is) (put_none c.loop-i.rows.slots.now c.loop-i.rows.names.now c.loop-i.at c.args.up e w.if-kept.false)); same = search rules }
    ]

pub returns-clause-written : goal.returns-clause-written
returns-clause-written c =
    let h : length (entries_of c.args.list) ≤ c.loop-i.i = omega arith in
    going_all c.loop-i.invariant.going h
