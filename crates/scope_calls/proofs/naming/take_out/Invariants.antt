-- The entries passed that stay stand together; those to come are as they were.
use Rattle.scope_calls.proofs.NamingLaws.{Going}
use Rattle.scope_calls.proofs.naming.take_out.Given as goal

abbrev pub invariant-loop-i : goal.invariant-loop-i
invariant-loop-i l = Going l.fn.rows.slots.now l.fn.rows.names.now l.slots l.names l.from l.to l.count l.cut l.i l.name
