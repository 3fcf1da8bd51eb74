-- The cell that is there, or none.
use Rattle.std.proofs.Common.{rules, MatchOption, ◌≡◌, false, nat_eq}
use Rattle.lexer.proofs.LookLaws.{found}
use Rattle.lexer.proofs.look.is_at.Goals as goal

pub returns : goal.returns
returns c =
    let e : MatchOption c.get.result (c.is_some_and.result ≡ false) (λ x. c.is_some_and.result ≡ nat_eq c.args.x x.now) = search rules in
    found (nat_eq c.args.x) _ _ c.get.result c.is_some_and.result (search rules) e
