-- The cells counted are the run.
use Rattle.std.proofs.Common.{arith}
use Rattle.lexer.proofs.LookLaws.{run_passed}
use Rattle.lexer.proofs.look.end_of.Goals as goal

pub returns : goal.returns
returns g c = run_passed g.C.Class.class _ _ _ (omega arith) c.count.ensures
