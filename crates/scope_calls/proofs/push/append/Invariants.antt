-- The entries passed that stay are written.
use Rattle.lists.specs.List.{entries_of}
use Rattle.scope_calls.specs.Lending.{SameRows}
use Rattle.scope_calls.proofs.AppendLaws.{Going}
use Rattle.scope_calls.proofs.push.append.Given as goal

abbrev pub invariant-loop-i : goal.invariant-loop-i
invariant-loop-i l = record {
  going : Going l.fn.rows.slots.now l.fn.rows.names.now l.rows.slots.now l.rows.names.now l.from l.at l.up l.cut l.i (entries_of l.list);
  same : SameRows l.fn.rows l.rows;
}
