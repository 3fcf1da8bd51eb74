-- The text behind the whitespace is looked at.
use native.Mathlib.Omega.{arith}
use Rattle.words.specs.Keywords.{class_of}
use Rattle.words.proofs.KeywordLaws.{followed_ahead, ahead_of}
use Rattle.words.proofs.keywords.follows.Goals as goal

pub returns-in-Less : goal.returns-in-Less
returns-in-Less c =
    followed_ahead (class_of c.args.follower) (ahead_of c.in-Less.is) (omega arith) (omega arith) c.end_of-j.ensures c.follower_at.ensures c.max-far.ensures
