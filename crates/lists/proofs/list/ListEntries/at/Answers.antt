-- The span lies inside the cells.
use native.Mathlib.Omega.{arith}
use lib.ListN.{length-map}
use Rattle.scope.proofs.ListLaws.{inside_at}
use Rattle.lists.proofs.list.ListEntries.at.Goals as goal

pub slice_bounds-result-end : goal.slice_bounds-result-end
slice_bounds-result-end c = let l = c.args.self.now in let h = inside_at l.cells.now l.rows.now c.args.i l.inside (simp length-map at c.requires) in omega arith
