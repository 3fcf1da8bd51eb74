-- The part at its start.
use Rattle.lexer.proofs.PartLaws.{next_start}
use Rattle.lexer.proofs.parts.next_part.Goals as goal

pub returns : goal.returns
returns c = next_start _ _ c.part_start.result c.part_start.ensures c.part_at.result c.part_at.ensures
