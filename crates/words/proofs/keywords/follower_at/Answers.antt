-- The cell that is there, or none.
use Rattle.std.proofs.Common.{rules, MatchOption, ◌≡◌, false}
use Rattle.lexer.proofs.LookLaws.{found}
use Rattle.words.specs.Keywords.{class_of}
use Rattle.words.proofs.keywords.follower_at.Goals as goal

pub returns : goal.returns
returns c =
    let e : MatchOption c.get.result (c.is_some_and.result ≡ false) (λ x. c.is_some_and.result ≡ class_of c.args.follower x.now) = search rules in
    found (class_of c.args.follower) _ _ c.get.result c.is_some_and.result (search rules) e
