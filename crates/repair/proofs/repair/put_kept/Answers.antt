-- No edit moves nothing, so the items copied are the old ones.
use native.Mathlib.Omega.{arith}
use mathlib.Core.Path.{ap}
use mathlib.Core.List.{map}
use lib.ListN.{length}
use Rattle.runs.specs.Record.{item_of, store_of}
use Rattle.runs.proofs.BehindLaws.{behind-same}
use Rattle.repair.proofs.RepairCodeLaws.{moved_none}
use Rattle.repair.proofs.repair.put_kept.Goals as goal

pub copy_items-requires : goal.copy_items-requires
copy_items-requires c =
    let z = ap (λ is. length (store_of is)) (moved_none (map (item_of c.args.old.store.now) c.args.old.rows.now)) in
    (c.requires.0, omega (arith, c.requires.1), omega (arith, c.requires.2, z), omega (arith, c.requires.3, z))

pub returns-clause-behind : goal.returns-clause-behind
returns-clause-behind c = behind-same (moved_none (map (item_of c.args.old.store.now) c.args.old.rows.now)) c.copy_items.ensures.behind
