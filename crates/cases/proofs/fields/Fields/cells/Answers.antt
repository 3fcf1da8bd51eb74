-- A hyphen stands for no cells.
use Rattle.std.proofs.Common.{sym, ◌∙◌, arith}
use Rattle.cases.proofs.PointLaws.{cells_none, cells_some}
use Rattle.cases.proofs.fields.Fields.cells.Goals as goal
use Rattle.cases.proofs.fields.Fields.cells.Goals.{then-is, else-is}

pub returns : goal.returns
returns c =
    elim c.if-is.branch [
      | then-is w ↦
          let n = rw w.self-is at c.next_field.ensures in
          let z = cells_none _ _ (sym c.is.ensures ∙ w.if-is.true) (omega arith) n.1 in
          rw (w.n-is, w.out-is) (z.0, n.0, z.1)
      | else-is w ↦
          let p = w.code_points-n.ensures in
          let n = rw (w.self-is, p.1) at c.next_field.ensures in
          let z = cells_some _ _ (sym c.is.ensures ∙ w.if-is.false) (p.0, p.2) n.1 in
          rw (w.n-is, w.out-is) (z.0, n.0, z.1)
    ]
