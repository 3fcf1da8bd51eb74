-- Each turn reads one entry: a row, and the cells of its name.
use Rattle.std.proofs.Common.{◌≡◌, ◌+◌, ◌-◌, arith, ap, ◌∙◌}
use Rattle.cases.specs.Entries.{cell}
use Rattle.cases.proofs.LaidLaws.{lays_rest}
use Rattle.cases.proofs.EntryLaws.{listing_read, listing_end}
use Rattle.cases.proofs.calls.read_list.Goals as goal

pub loop-row-preserved : goal.loop-row-preserved
loop-row-preserved c =
    let v = c.loop-row.invariant in
    let d = rw v.0 at c.decimal-depth.ensures in
    let t = rw d.1 at c.decimal-kind.ensures in
    let n = rw t.1 at c.cells-n.ensures in
    let w = lays_rest c.loop-row.cells c.loop-row.k v.1.named.fits n.0 in
    let z : c.cells-n.result ≡ (c.loop-row.k + c.cells-n.result) - c.loop-row.k = omega arith in
    (n.1, listing_read v.1 (omega arith) (omega arith) (d.0, d.2) (t.0, t.2) (w, n.2) c.cell.ensures (c.cell-in-loop-row.ensures ∙ ap cell z))

pub returns : goal.returns
returns c = let v = c.loop-row.invariant in let z = listing_end v.1 (omega arith) in (z.0, z.1, v.0, z.2)
