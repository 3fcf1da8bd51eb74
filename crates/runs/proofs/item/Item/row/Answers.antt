-- Each of a number's lengths is within the cells of its value.
use Rattle.std.proofs.Common.{arith, ap}
use Rattle.lexer.specs.Answered.{told}
use Rattle.runs.proofs.CodedLaws.{lengths_within}
use Rattle.runs.proofs.item.Item.row.Goals as goal

pub overflow_cast-result-5 : goal.overflow_cast-result-5
overflow_cast-result-5 c = omega (arith, ap (λ v. v.before) c.of-value.ensures, (lengths_within (told c.args.self.read)).0, c.requires.0.size)

pub overflow_cast-result-6 : goal.overflow_cast-result-6
overflow_cast-result-6 c = omega (arith, ap (λ v. v.after) c.of-value.ensures, (lengths_within (told c.args.self.read)).1, c.requires.0.size)

pub overflow_cast-result-7 : goal.overflow_cast-result-7
overflow_cast-result-7 c = omega (arith, ap (λ v. v.exponent) c.of-value.ensures, (lengths_within (told c.args.self.read)).2, c.requires.0.size)
