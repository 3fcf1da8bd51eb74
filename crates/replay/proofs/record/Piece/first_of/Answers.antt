-- Four or more are printed together.
use Rattle.std.proofs.Common.{arith}
use Rattle.replay.proofs.PrintedLaws.{piece_one, piece_all}
use Rattle.replay.proofs.record.Piece.first_of.Goals as goal

pub returns-then-n-lt4 : goal.returns-then-n-lt4
returns-then-n-lt4 c = (piece_one c.args.cells.now c.alike-n.ensures c.if-n-lt4.true, omega arith, omega arith)

pub returns-else-n-lt4 : goal.returns-else-n-lt4
returns-else-n-lt4 c = piece_all _ c.alike-n.ensures c.if-n-lt4.false
