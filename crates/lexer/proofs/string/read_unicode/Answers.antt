-- Each return is one way through the definition's code point, by where the value lies.
use Rattle.std.proofs.Common.{arith}
use Rattle.std.proofs.lemmas.Result.{err_from_is_err_and}
use Rattle.lexer.proofs.StringLaws.{point_bad, point_low, point_second, point_half, point_high, point-one}
use Rattle.lexer.proofs.string.read_unicode.Goals.{then-v-le-LAST_SECOND_HALF-via-then-v-le-LAST_SECOND_HALF, then-v-le-LAST_SECOND_HALF-via-else-v-le-LAST_SECOND_HALF+then-v-gt-LAST_SCALAR}
use Rattle.lexer.proofs.string.read_unicode.Goals as goal

pub returns-in_err-v : goal.returns-in_err-v
returns-in_err-v c =
    let p = err_from_is_err_and c.from_residual.result c.from_residual.ensures.1 in
    rw (p.1, p.2) (point_bad _ _ _ (omega arith) c.in_err-v.ensures)

pub returns-then-v-lt-FIRST_HALF : goal.returns-then-v-lt-FIRST_HALF
returns-then-v-lt-FIRST_HALF c = point_low _ _ _ (omega arith) c.in_ok-v.ensures (omega arith)

pub returns-then-v-le-LAST_FIRST_HALF : goal.returns-then-v-le-LAST_FIRST_HALF
returns-then-v-le-LAST_FIRST_HALF c = point_second _ _ _ (omega arith) c.in_ok-v.ensures (omega arith) (omega arith) c.read_second_half.ensures

pub returns-then-v-le-LAST_SECOND_HALF : goal.returns-then-v-le-LAST_SECOND_HALF
returns-then-v-le-LAST_SECOND_HALF c = elim c.then-v-le-LAST_SECOND_HALF.branch [
  | then-v-le-LAST_SECOND_HALF-via-then-v-le-LAST_SECOND_HALF w ↦ point_half _ _ _ (omega arith) c.in_ok-v.ensures (omega arith) w.if-v-le-LAST_SECOND_HALF.true
  | then-v-le-LAST_SECOND_HALF-via-else-v-le-LAST_SECOND_HALF+then-v-gt-LAST_SCALAR w ↦ point_high _ _ _ (omega arith) c.in_ok-v.ensures w.if-v-le-LAST_SECOND_HALF.false w.if-v-gt-LAST_SCALAR.true
]

pub returns : goal.returns
returns c = point-one _ _ _ (omega arith) c.in_ok-v.ensures (omega arith) (omega arith)
