-- The name, then the dot.
use Rattle.reading.specs.Codes.{codes}
use Rattle.search.proofs.TextLaws.{front_other, behind_front}
use Rattle.search.proofs.keys.behind_dot.Goals as goal

pub returns-in_err-strip_prefix : goal.returns-in_err-strip_prefix
returns-in_err-strip_prefix c = rw c.from_residual.ensures (front_other c.args.name.now (codes " . ") c.args.text.now c.in_err-strip_prefix.ensures.cases)

pub returns : goal.returns
returns c =
    let a = c.args in
    let f = c.in_ok-strip_prefix.ensures.cases in
    behind_front a.name.now (codes " . ") a.text.now f.0 f.1 c.strip_prefix-2.result c.strip_prefix-2.ensures.cases
