-- There are as many rows as entries.
use native.Mathlib.Omega.{arith}
use lib.ListN.{length-take}
use Rattle.scope.specs.Answers.{lent}
use Rattle.scope.proofs.SoundLaws.{sound, short_front, entries_front}
use Rattle.scope.proofs.lent.Sound.entries.Goals as goal

pub slice_bounds-result-end : goal.slice_bounds-result-end
slice_bounds-result-end c = let a = c.args.self in let w = (sound (lent a.counts a.slots.now a.names.now) a.sound).limits in rw length-take (omega arith)

pub slice_bounds-result-end-2 : goal.slice_bounds-result-end-2
slice_bounds-result-end-2 c = let a = c.args.self in let w = (sound (lent a.counts a.slots.now a.names.now) a.sound).limits in rw length-take (omega arith)

pub invariant_of-result : goal.invariant_of-result
invariant_of-result c =
    let a = c.args.self in
    let w = (sound (lent a.counts a.slots.now a.names.now) a.sound).limits in
    record { paired = simp length-take (omega arith); short = short_front (lent a.counts a.slots.now a.names.now) a.sound }

pub returns : goal.returns
returns c = let a = c.args.self in entries_front (lent a.counts a.slots.now a.names.now) a.sound
