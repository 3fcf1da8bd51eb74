-- Each digit goes behind the number so far, and no other byte is passed.
use Rattle.std.proofs.Common.{◌≡◌, ◌+◌, drop}
use Rattle.cases.proofs.FieldLaws.{Digits}
use Rattle.cases.proofs.fields.Fields.number.Given as goal

abbrev pub invariant-loop-b : goal.invariant-loop-b
invariant-loop-b l = (l.self.line ≡ l.initial.self.line) × (l.self.at ≡ l.initial.self.at + l.b-index) × (l.b-items ≡ drop l.initial.self.at l.initial.self.line.now) × Digits l.base l.initial.self.line.now l.initial.self.at l.n l.self.at
