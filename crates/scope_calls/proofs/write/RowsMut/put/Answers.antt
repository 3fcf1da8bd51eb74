-- The two rows at `at` are written; a name fills the front of its row.
use native.Mathlib.Omega.{arith}
use Rattle.scope_calls.proofs.WrittenLaws.{appended_one}
use Rattle.scope_calls.proofs.write.RowsMut.put.Goals as goal

pub returns-clause-written : goal.returns-clause-written
returns-clause-written c =
    let a = c.args in
    appended_one a.self.now.slots.now a.self.now.names.now a.at a.e.context a.e.depth a.e.kind a.e.name.now (omega arith) (omega arith) (omega arith) c.fill.ensures
