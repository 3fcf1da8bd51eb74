-- The table at that place, if there is one.
use Rattle.std.proofs.Common.{rules}
use Rattle.functions.proofs.FunctionLaws.{among}
use Rattle.functions.proofs.functions.is_among_as_long.Goals as goal

pub returns : goal.returns
returns c = among c.args.s.now c.args.by_length.now c.get.result c.get.ensures.lookup (search rules)
