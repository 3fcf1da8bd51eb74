-- The cell that is there, or none.
use Rattle.std.proofs.Common.{rules, MatchOption, ◌≡◌, false}
use Rattle.lexer.proofs.LookLaws.{found}
use Rattle.lexer.proofs.look.holds_at.Goals as goal

pub returns : goal.returns
returns g c =
    let e : MatchOption c.get.result (c.is_some_and.result ≡ false) (λ x. c.is_some_and.result ≡ g.C.Class.class x.now) = search rules in
    found g.C.Class.class _ _ c.get.result c.is_some_and.result (search rules) e
