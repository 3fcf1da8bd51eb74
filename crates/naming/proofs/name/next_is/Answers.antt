-- The next part is the first of the prefix.
use Rattle.naming.proofs.CutLaws.{starts_at, starts_not}
use Rattle.naming.proofs.name.next_is.Goals as goal

pub returns-in-Ok : goal.returns-in-Ok
returns-in-Ok c = starts_at _ _ c.next_part.ensures _ c.in-Ok.is c.is.ensures

pub returns-in-Err : goal.returns-in-Err
returns-in-Err c = starts_not _ _ c.next_part.ensures _ c.in-Err.is
