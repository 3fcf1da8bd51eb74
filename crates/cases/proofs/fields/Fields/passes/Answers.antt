-- A byte that comes next stands within the line.
use Rattle.std.proofs.Common.{arith, sym, ◌∙◌}
use lib.Dec.{eqb}
use Rattle.reading.proofs.Cell.{cell_there}
use Rattle.cases.proofs.fields.Fields.passes.Goals as goal

pub overflow_add-self : goal.overflow_add-self
overflow_add-self c = omega (arith, cell_there (eqb _) _ _ (sym c.is-is.ensures ∙ c.if-is.true))
