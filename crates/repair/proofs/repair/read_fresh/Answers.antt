-- The row that was written is written again, moved by the part's place.
use native.Mathlib.Omega.{arith}
use Rattle.repair.proofs.FreshLaws.{place_written, reach_written, fresh-is}
use Rattle.repair.proofs.repair.read_fresh.Goals as goal

pub returns-clause-fresh : goal.returns-clause-fresh
returns-clause-fresh c =
    let n = c.read_item-next.ensures.next in
    fresh-is n c.requires.5 c.args.base (omega (arith, place_written n c.requires.5)) (omega (arith, reach_written n c.requires.5)) c.put_moved.ensures
