-- The definition's tests in order.
use native.Mathlib.Omega.{arith}
use Rattle.scope_calls.proofs.StackLaws.{push_full, push_empty, push_empty_whole}
use Rattle.scope_calls.proofs.stack.push_default.Goals as goal

pub returns-then-counts-ge-MAX_CONTEXTS : goal.returns-then-counts-ge-MAX_CONTEXTS
returns-then-counts-ge-MAX_CONTEXTS c = let a = c.args.scope in (push_full a.counts a.slots.now a.names.now c.in_ok-checked.ensures.3 (omega arith), tt)

pub returns : goal.returns
returns c = let a = c.args.scope in let ok = c.in_ok-checked.ensures.3 in (push_empty a.counts a.slots.now a.names.now ok (omega arith), push_empty_whole a.counts a.slots.now a.names.now ok (omega arith))
