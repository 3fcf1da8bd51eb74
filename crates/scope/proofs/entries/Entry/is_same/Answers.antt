-- The depth, then the names.
use borrow.Author.Tests.{eq-eqb}
use mathlib.Core.Path.{◌∙◌}
use Rattle.scope.proofs.entries.Entry.is_same.Goals as goal

pub returns-then-other-self : goal.returns-then-other-self
returns-then-other-self c = c.same.ensures ∙ rw (eq-eqb _ _ c.if-other-self.true)
