-- Which of the two is compared with which is the same.
use mathlib.Core.Path.{◌∙◌}
use Rattle.names.proofs.SameLaws.{same_sym}
use Rattle.tokens.proofs.token.is_blank.Goals as goal

pub returns : goal.returns
returns c = c.is.ensures ∙ same_sym _ _ ∙ rw c.window-w.ensures
