-- No entry passed, going back, ends the level or has the name.
use mathlib.Core.Path.{sym, ◌∙◌}
use native.Mathlib.Omega.{arith}
use Rattle.scope.specs.Viewed.{viewed}
use Rattle.scope.proofs.SearchLaws.{found, missed}
use Rattle.lists.proofs.FirstLaws.{seen_none, seen_ends, seen_step}
use Rattle.lists.proofs.settling.is_seen.Goals as goal

pub returns-then-ends_level : goal.returns-then-ends_level
returns-then-ends_level g c = sym (c.loop-j.invariant ∙ seen_ends _ c.loop-j.j (viewed c.args.e) c.at-before.ensures (omega arith) (omega arith) c.ends_level.ensures c.if-ends_level.true)

pub returns-then-is_same : goal.returns-then-is_same
returns-then-is_same g c = sym (c.loop-j.invariant ∙ found (seen_step _ c.loop-j.j (viewed c.args.e) c.at-before.ensures (omega arith) (omega arith) c.ends_level.ensures c.if-ends_level.false) c.is_same.ensures c.if-is_same.true)

pub loop-j-preserved : goal.loop-j-preserved
loop-j-preserved g c = c.loop-j.invariant ∙ missed (seen_step _ c.loop-j.j (viewed c.args.e) c.at-before.ensures (omega arith) (omega arith) c.ends_level.ensures c.if-ends_level.false) c.is_same.ensures c.if-is_same.false

pub returns : goal.returns
returns g c = sym (c.loop-j.invariant ∙ seen_none _ c.loop-j.j (viewed c.args.e) (omega arith))
