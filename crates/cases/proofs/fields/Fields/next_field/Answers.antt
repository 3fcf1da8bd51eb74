-- The field behind the next space, or the end where there is none.
use Rattle.std.proofs.Common.{refl, ◌∙◌}
use Rattle.cases.proofs.PlaceLaws.{next_found, next_missed}
use Rattle.cases.proofs.fields.Fields.next_field.Goals as goal

pub returns-in-Some : goal.returns-in-Some
returns-in-Some c = (refl, next_found _ _ c.rest.ensures c.in-Some.ensures)

pub returns-in-None : goal.returns-in-None
returns-in-None c = (refl, c.max-self.ensures ∙ next_missed _ _ c.rest.ensures c.in-None.ensures)
