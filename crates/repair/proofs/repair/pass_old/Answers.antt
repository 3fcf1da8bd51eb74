-- Each row passed lies before the state, so none of them matches.
use native.Mathlib.Omega.{arith}
use mathlib.Core.Path.{refl}
use Rattle.repair.proofs.MatchLaws.{ahead_at, passed_by_test, passed_all}
use Rattle.repair.proofs.repair.pass_old.Goals as goal

pub returns-then-not-is_before : goal.returns-then-not-is_before
returns-then-not-is_before c = (c.loop-j.invariant, ahead_at refl c.is_before.ensures c.if-not-is_before.true)

pub loop-j-preserved : goal.loop-j-preserved
loop-j-preserved c = passed_by_test refl c.is_before.ensures c.if-not-is_before.false c.loop-j.invariant (omega arith)

pub returns : goal.returns
returns c = passed_all c.saturating_sub-last.ensures c.requires c.loop-j.invariant (omega arith) c.loop-j.auto.j-end c.max.ensures
