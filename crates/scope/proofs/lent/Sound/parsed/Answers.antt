-- There are as many rows as parsed names.
use native.Mathlib.Omega.{arith}
use lib.ListN.{length-take, length-drop}
use Rattle.scope.specs.Answers.{lent}
use Rattle.scope.proofs.SoundLaws.{sound, short_back, parsed_back}
use Rattle.scope.proofs.lent.Sound.parsed.Goals as goal

pub overflow_add-end : goal.overflow_add-end
overflow_add-end c = let a = c.args.self in let w = (sound (lent a.counts a.slots.now a.names.now) a.sound).limits in omega arith

pub slice_bounds-result-end : goal.slice_bounds-result-end
slice_bounds-result-end c = let a = c.args.self in let w = (sound (lent a.counts a.slots.now a.names.now) a.sound).limits in omega arith

pub slice_bounds-result-end-2 : goal.slice_bounds-result-end-2
slice_bounds-result-end-2 c = let a = c.args.self in let w = (sound (lent a.counts a.slots.now a.names.now) a.sound).limits in omega arith

pub invariant_of-result : goal.invariant_of-result
invariant_of-result c =
    let a = c.args.self in
    let w = (sound (lent a.counts a.slots.now a.names.now) a.sound).limits in
    record { paired = simp (length-take, length-drop) (omega arith); short = short_back (lent a.counts a.slots.now a.names.now) a.sound _ (omega arith) }

pub returns : goal.returns
returns c = let a = c.args.self in parsed_back (lent a.counts a.slots.now a.names.now) a.sound _ (omega arith)
