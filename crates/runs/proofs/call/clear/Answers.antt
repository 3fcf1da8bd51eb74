-- Cells that are all 0.
use mathlib.Core.Path.{◌∙◌}
use lib.ListN.{length}
use Rattle.runs.proofs.RunCallLaws.{zeros_are}
use Rattle.runs.proofs.call.clear.Goals as goal

pub returns : goal.returns
returns c = c.fill.ensures.after (λ y e. e) ∙ zeros_are (length c.args.scratch.now)
