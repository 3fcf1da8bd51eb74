-- One record carries the reading through the inside.
use Rattle.lexer.proofs.SkipLaws.{Closing}
use Rattle.lexer.proofs.skip.block_end.Given as goal

abbrev pub invariant-loop-i : goal.invariant-loop-i
invariant-loop-i l = Closing l.rest l.from l.i
