-- What stays is moved together, and one entry written behind it.
use native.Mathlib.Omega.{arith}
use Rattle.scope_calls.proofs.NamingLaws.{moved_appended}
use Rattle.scope_calls.proofs.naming.replace.Goals as goal

pub returns-clause-moved : goal.returns-clause-moved
returns-clause-moved c = let m = c.take_out-to.ensures.moved in moved_appended m c.put.ensures.written (omega arith) (omega (arith, m.place))
