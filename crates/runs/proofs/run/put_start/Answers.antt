-- The start item is the run's first, and nothing is read yet.
use native.Mathlib.Omega.{arith}
use mathlib.Core.Path.{refl}
use Rattle.runs.proofs.RanLaws.{stands_start}
use Rattle.runs.proofs.run.put_start.Goals as goal

pub returns : goal.returns
returns c = stands_start c.start_type.ensures c.row-row.ensures (omega arith) refl c.ends_run.ensures
