-- Each cell is shown.
use Rattle.std.proofs.Common.{rules}
use Rattle.lexer.proofs.WindowLaws.{window_is}
use Rattle.lexer.proofs.window.by_characters.Goals as goal

pub returns : goal.returns
returns c = window_is _ _ c.from_fn.ensures.items.long (λ j h. let e = c.from_fn.ensures.items.at j 0 h in search (rules, e.2))
