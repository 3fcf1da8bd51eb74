-- The number's places give its digits, which have room.
use native.Mathlib.Omega.{arith}
use Rattle.tokens.proofs.TokenLaws.{number-room, number-taken}
use Rattle.tokens.proofs.token.number_at.Goals as goal

pub write_number-requires : goal.write_number-requires
write_number-requires c = let n = c.read_number-n.ensures in (n, number-room n c.requires.0 c.requires.3 (omega arith))

pub returns : goal.returns
returns c = number-taken c.read_number-n.ensures c.write_number.ensures c.args.flags c.max.ensures c.max-before.ensures
