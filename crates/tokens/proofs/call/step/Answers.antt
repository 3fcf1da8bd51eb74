-- The token reader reads from the position on.
use native.Mathlib.Omega.{arith}
use Rattle.tokens.proofs.CallLaws.{step-within}
use Rattle.tokens.proofs.call.step.Goals as goal

pub overflow_add-place : goal.overflow_add-place
overflow_add-place c = let l = step-within _ c.args.l c.args.text.now c.read_token-o.ensures.0 c.requires.0 c.requires.1 in omega (arith, l, c.requires.0)
