-- Three parts, one behind the other.
use Rattle.std.proofs.Common.{arith, refl}
use Rattle.std.proofs.lemmas.Grind.{common_steps}
use Rattle.text.proofs.OutputLaws.{adds_first, adds_more}
use Rattle.lexer.proofs.number.write_number.Goals as goal

pub returns : goal.returns
returns c = let w = adds_first (adds_more (adds_more c.write_before.ensures c.append.ensures) c.append-2.ensures) refl in grind (arith, common_steps, w)
