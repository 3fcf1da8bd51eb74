-- The facts of a reading bound its numbers, and the token that was read is the next item.
use Rattle.runs.proofs.RanLaws.{found, next_is}
use native.Mathlib.Omega.{arith}
use mathlib.Core.Path.{refl, ap}
use lib.ListN.{get_or}
use Rattle.runs.proofs.run.read_item.Goals as goal

pub overflow_add-next : goal.overflow_add-next
overflow_add-next c =
    let g = found _ c.args.text.now c.args.at.position _ c.read_token-o.ensures.0 c.requires.0 c.requires.3 in
    omega (arith, g.used, c.requires.0)

pub overflow_add-next-2 : goal.overflow_add-next-2
overflow_add-next-2 c =
    let g = found _ c.args.text.now c.args.at.position _ c.read_token-o.ensures.0 c.requires.0 c.requires.3 in
    omega (arith, g.far, c.requires.0)

pub row-row-requires : goal.row-row-requires
row-row-requires c =
    let g = found _ c.args.text.now c.args.at.position _ c.read_token-o.ensures.0 c.requires.0 c.requires.3 in
    (record { position = omega (arith, g.used, c.requires.0); reach = omega (arith, g.far, c.requires.0); size = omega (arith, g.cells, g.used, c.requires.0) }, omega (arith, c.requires.4))

pub returns-clause-next : goal.returns-clause-next
returns-clause-next c =
    next_is _ c.args.text.now c.args.at _ c.read_token-o.ensures.0 c.requires.0 c.requires.3 c.row-row.ensures refl c.ends_run.ensures (ap (λ r. get_or r 6 0) c.row-row.ensures)
