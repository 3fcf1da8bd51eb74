-- One record carries the characters so far and the output's front.
use Rattle.std.proofs.Common.{arith}
use Rattle.std.proofs.lemmas.List.{set-get_or}
use Rattle.text.proofs.Utf8Loops.{writing_none, writing_more, writing_end, writing_all}
use Rattle.text.proofs.utf8.write_chars.Goals as goal

pub loop-cell-init : goal.loop-cell-init
loop-cell-init c = writing_none _ _

pub loop-cell-preserved : goal.loop-cell-preserved
loop-cell-preserved c = writing_more c.loop-cell.invariant (omega arith) c.in-Some.ensures.within c.in-Some.ensures.sequence

pub returns-in_default : goal.returns-in_default
returns-in_default c = rw set-get_or (writing_end c.loop-cell.invariant c.requires c.in_default.ensures.sequence)

pub returns : goal.returns
returns c = writing_all c.loop-cell.invariant c.requires (omega arith)
