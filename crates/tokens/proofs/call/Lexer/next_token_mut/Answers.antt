-- Of `next_token` the proof knows its contract alone; its place is the new state's position by `call_standing`.
use Rattle.tokens.specs.CalledBy.{state_of, lent_of}
use Rattle.tokens.proofs.CallLaws.{call_standing}
use Rattle.tokens.proofs.call.Lexer.next_token_mut.Goals as goal

pub returns : goal.returns
returns c =
    let a = c.args in
    call_standing (lent_of a.scope) (state_of a.self.now) a.text.now a.out.now a.scratch.now c.next_token-c.ensures
