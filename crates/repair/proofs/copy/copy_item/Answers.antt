-- The row differs in three places, and the value is copied as it is.
use native.Mathlib.Omega.{arith}
use mathlib.Core.Path.{refl}
use Rattle.runs.proofs.BehindLaws.{copied_is}
use Rattle.runs.specs.Copied.{edit_of}
use Rattle.repair.proofs.copy.copy_item.Goals as goal

pub returns-clause-copied : goal.returns-clause-copied
returns-clause-copied c =
    copied_is (edit_of c.args.e) c.args.old_store.now c.args.row c.requires.0 (omega arith) c.moved-position.ensures c.moved-reach.ensures c.put_moved.ensures refl c.copy_from_slice.ensures.after (omega arith)
