-- A first byte below 80, or one that begins no sequence, is settled here.
use Rattle.std.proofs.Common.{arith}
use Rattle.text.proofs.Utf8Laws.{at_end, at_ascii, at_below, at_above}
use Rattle.text.proofs.utf8.read_sequence.Goals as goal

pub returns-in-0-to-127-clause-sequence : goal.returns-in-0-to-127-clause-sequence
returns-in-0-to-127-clause-sequence c = rw c.from.ensures (at_ascii c.args.bytes.now (omega arith) (omega arith))

pub returns-in_default-clause-sequence : goal.returns-in_default-clause-sequence
returns-in_default-clause-sequence c = at_end c.args.bytes.now (omega arith)

pub returns-in_default-2-clause-sequence : goal.returns-in_default-2-clause-sequence
returns-in_default-2-clause-sequence c = at_below c.args.bytes.now (omega arith) (omega arith) (omega arith) (omega arith)

pub returns-in_default-3-clause-sequence : goal.returns-in_default-3-clause-sequence
returns-in_default-3-clause-sequence c = at_above c.args.bytes.now (omega arith) (omega arith) (omega arith)
