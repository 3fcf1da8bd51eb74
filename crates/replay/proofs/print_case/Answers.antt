-- A record stands at the fronts of the slices that were lent for it.
use Rattle.std.proofs.Common.{length-take, arith}
use Rattle.runs.proofs.WithinLaws.{recorded}
use Rattle.replay.proofs.print_case.Goals as goal

pub slice_bounds-record-end : goal.slice_bounds-record-end
slice_bounds-record-end g c = (recorded _ _ c.in-Ok.ensures.ran.answer c.run.ensures.ran.left).0

pub slice_bounds-record-end-in-Ok : goal.slice_bounds-record-end-in-Ok
slice_bounds-record-end-in-Ok g c = simp length-take (omega (arith, (recorded _ _ c.in-Ok.ensures.ran.answer c.run.ensures.ran.left).0))

pub slice_bounds-record-end-in-Ok-2 : goal.slice_bounds-record-end-in-Ok-2
slice_bounds-record-end-in-Ok-2 g c = (recorded _ _ c.in-Ok.ensures.ran.answer c.run.ensures.ran.left).1

pub slice_bounds-record-end-in-Ok-3 : goal.slice_bounds-record-end-in-Ok-3
slice_bounds-record-end-in-Ok-3 g c = simp length-take (omega (arith, (recorded _ _ c.in-Ok.ensures.ran.answer c.run.ensures.ran.left).1))
