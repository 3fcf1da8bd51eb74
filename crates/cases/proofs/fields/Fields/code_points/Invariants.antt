-- Each turn reads one code point and passes a comma.
use Rattle.std.proofs.Common.{◌≡◌, ◌-◌, length}
use Rattle.cases.proofs.PointLaws.{Reading}
use Rattle.cases.proofs.fields.Fields.code_points.Given as goal

abbrev pub invariant-loop-self : goal.invariant-loop-self
invariant-loop-self l = (l.self.line ≡ l.initial.self.line) × Reading l.initial.self.line.now l.initial.out l.initial.self.at 0 l.out l.k l.self.at

abbrev pub decreases-loop-self : goal.decreases-loop-self
decreases-loop-self l = length l.self.line.now - l.self.at
