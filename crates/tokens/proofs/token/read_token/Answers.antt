-- Whitespace and comments, the window and its cases are the definition's steps.
use Rattle.tokens.proofs.TokenLaws.{token_taken}
use Rattle.tokens.proofs.token.read_token.Goals as goal

pub returns : goal.returns
returns c = (token_taken _ _ c.skip-i.ensures.0 c.by_window-o.ensures.0 _ c.clear.ensures, c.by_window-o.ensures.1)
