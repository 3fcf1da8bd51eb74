-- The count agrees with the definition on every byte.
use mathlib.Core.Path.{◌∙◌}
use native.Mathlib.Omega.{arith}
use Rattle.text.proofs.Utf8Laws.{ones_of_lem, few_ones}
use Rattle.text.proofs.utf8.leading_ones.Goals as goal

pub returns-clause-count : goal.returns-clause-count
returns-clause-count c = c.leading_ones.ensures ∙ ones_of_lem c.args.b (omega arith)

pub returns-clause-of_lead : goal.returns-clause-of_lead
returns-clause-of_lead c = λ l. rw (c.leading_ones.ensures ∙ ones_of_lem c.args.b (omega arith)) (few_ones c.args.b (omega arith) l.0 l.1)
