-- Each return is one way through the definition's second half, followed look by look.
use Rattle.std.proofs.Common.{rules, ◌≡◌, ◌+◌, ◌<◌, ◌≤◌, length, get_or, arith}
use Rattle.std.proofs.lemmas.Result.{err_from_is_err_and}
use Rattle.lexer.proofs.StringLaws.{second_short, second_bad, second_low_lem, second_high_lem, second_one}
use Rattle.lexer.proofs.string.read_second_half.Goals.{then-l-lt-SECOND_HALF-via-then-l-lt-SECOND_HALF, then-l-lt-SECOND_HALF-via-else-l-lt-SECOND_HALF+then-l-gt-LAST_SECOND_HALF}
use Rattle.lexer.proofs.string.read_second_half.Goals as goal

pub returns-in_default : goal.returns-in_default
returns-in_default c = let l : length c.args.rest.now ≤ c.args.i + 1 = search rules in second_short _ _ _ l (omega arith)

pub returns-in_err-l : goal.returns-in_err-l
returns-in_err-l c =
    let l : c.args.i + 1 < length c.args.rest.now = search rules in
    let e : c.in-Some.letter.now ≡ get_or c.args.rest.now (c.args.i + 1) 0 = search rules in
    let p = err_from_is_err_and c.from_residual.result c.from_residual.ensures.1 in
    rw (p.1, p.2) (second_bad _ _ _ l e c.digit_count-n.ensures.0 c.in_err-l.ensures)

pub returns-then-l-lt-SECOND_HALF : goal.returns-then-l-lt-SECOND_HALF
returns-then-l-lt-SECOND_HALF c =
    let l : c.args.i + 1 < length c.args.rest.now = search rules in
    let e : c.in-Some.letter.now ≡ get_or c.args.rest.now (c.args.i + 1) 0 = search rules in
    elim c.then-l-lt-SECOND_HALF.branch [
      | then-l-lt-SECOND_HALF-via-then-l-lt-SECOND_HALF w ↦ second_low_lem _ _ _ l e c.digit_count-n.ensures.0 c.in_ok-l.ensures w.if-l-lt-SECOND_HALF.true
      | then-l-lt-SECOND_HALF-via-else-l-lt-SECOND_HALF+then-l-gt-LAST_SECOND_HALF w ↦ second_high_lem _ _ _ l e c.digit_count-n.ensures.0 c.in_ok-l.ensures w.if-l-lt-SECOND_HALF.false w.if-l-gt-LAST_SECOND_HALF.true
    ]

pub returns : goal.returns
returns c =
    let l : c.args.i + 1 < length c.args.rest.now = search rules in
    let e : c.in-Some.letter.now ≡ get_or c.args.rest.now (c.args.i + 1) 0 = search rules in
    rw c.paired.ensures (second_one _ _ _ l e c.digit_count-n.ensures.0 c.in_ok-l.ensures c.if-l-lt-SECOND_HALF.false c.if-l-gt-LAST_SECOND_HALF.false)
