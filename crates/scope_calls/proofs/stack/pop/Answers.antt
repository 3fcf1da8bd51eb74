-- The definition's tests in order.
use Rattle.scope_calls.proofs.StackLaws.{held_as, held_count, pop_empty, pop-one, pop_whole}
use Rattle.scope_calls.proofs.stack.pop.Goals as goal

pub returns-then-counts-eq0 : goal.returns-then-counts-eq0
returns-then-counts-eq0 c =
    let a = c.args.scope in
    let ok = c.in_ok-sound.ensures.3 in
    (pop_empty a.counts a.slots.now a.names.now ok c.if-counts-eq0.true, ok)

pub returns : goal.returns
returns c =
    let a = c.args.scope in
    let ok = c.in_ok-sound.ensures.3 in
    let b = rw (held_as c.entries.ensures c.in_ok-sound.ensures) at c.before_context.ensures in
    let few = rw (held_count a.counts a.slots.now a.names.now ok) at b.0 in
    (pop-one a.counts a.slots.now a.names.now ok c.before_context.result c.if-counts-eq0.false few b.1, pop_whole a.counts a.slots.now a.names.now ok c.before_context.result c.if-counts-eq0.false few b.1)
