-- The entries of the slots that are counted, and those behind them.
use Rattle.scope_calls.proofs.StackLaws.{before_parted}
use Rattle.scope_calls.proofs.stack.before_context.Goals as goal

pub returns : goal.returns
returns c = let e = c.args.entries in before_parted c.args.k e.slots.now e.names.now e.paired c.count_below.ensures
