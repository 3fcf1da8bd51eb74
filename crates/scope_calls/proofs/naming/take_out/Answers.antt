-- The entries passed that stay stand together; those to come are as they were.
use native.Mathlib.Omega.{arith}
use Rattle.scope_calls.proofs.NamingLaws.{going_all, going_short, going_not, going_moved}
use Rattle.scope_calls.proofs.naming.take_out.Goals as goal
use Rattle.scope_calls.proofs.naming.take_out.Goals.{then-kept, else-kept}

pub of-e-requires : goal.of-e-requires
of-e-requires c = let p = c.requires in going_short c.loop-i.invariant p.1 p.2 p.3 (omega arith)

pub loop-i-preserved : goal.loop-i-preserved
loop-i-preserved c =
    let p = c.requires in
    let g = c.loop-i.invariant in
    elim c.if-kept.branch [ then-kept w ↦ rw (w.slots-is, w.names-is, w.to-is) (going_moved g p.1 p.2 (omega arith) c.of-e.ensures c.stays_beside-kept.ensures c.cut_after-cut.ensures p.3 w.if-kept.true) | else-kept w ↦ rw (w.slots-is, w.names-is, w.to-is) (going_not g p.1 p.2 (omega arith) c.of-e.ensures c.stays_beside-kept.ensures c.cut_after-cut.ensures w.if-kept.false) ]

pub returns-clause-moved : goal.returns-clause-moved
returns-clause-moved c = let p = c.requires in going_all c.loop-i.invariant p.1 p.2 (omega arith)
