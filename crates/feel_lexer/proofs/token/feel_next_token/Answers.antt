-- The forms, then what the token call answers.
use Rattle.std.proofs.Common.{ap, ◌∙◌, length}
use Rattle.reading.proofs.Test.{both}
use Rattle.feel_lexer.proofs.StateLaws.{lexer_sized}
use Rattle.feel_lexer.proofs.TokenLaws.{value_short, token_taken}
use Rattle.feel_lexer.proofs.token.feel_next_token.Goals as goal

pub put_lexer-requires : goal.put_lexer-requires
put_lexer-requires c = lexer_sized _ (both _ _ c.in-Ok.ensures.0).1

pub put_read-requires : goal.put_read-requires
put_read-requires c =
    let a = c.args in
    (value_short a.lexer.now a.scope.now a.slots.now a.names.now a.text.now a.out.now a.scratch.now a.answer.now c.in-Ok.l c.in-Ok.ensures.1 c.scope_of.result c.scope_of.ensures c.next_token-c.ensures, ap length c.in-Ok.ensures.2)

pub returns-in-Ok : goal.returns-in-Ok
returns-in-Ok c =
    let a = c.args in
    token_taken a.lexer.now a.scope.now a.slots.now a.names.now a.text.now a.out.now a.scratch.now a.answer.now c.in-Ok.l c.in-Ok.ensures.1 c.scope_of.result c.scope_of.ensures c.next_token-c.ensures
    c.in-Ok.ensures.0 c.put_lexer.ensures (c.number.ensures ∙ c.put_read.ensures.0) c.put_read.ensures.1
