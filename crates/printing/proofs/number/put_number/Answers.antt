-- The digits so far stand from the index on, and nothing is written yet.
use Rattle.std.proofs.Common.{◌-◌, ap, ◌∙◌, length, arith}
use borrow.Author.Tests.{lt-ltb, le-ltb}
use Rattle.printing.proofs.DigitLaws.{digits_last, digits_more, digits-all}
use Rattle.printing.proofs.number.put_number.Goals as goal

pub append-requires : goal.append-requires
append-requires c =
    let k = c.loop-i in
    let e = digits_last k.invariant.0 (k.i - 1) (omega arith) c.digit.ensures (lt-ltb _ _ c.if-rest-base.true) in
    omega (arith, ap length e, ap length k.invariant.1)

pub returns-then-rest-base : goal.returns-then-rest-base
returns-then-rest-base c =
    let k = c.loop-i in
    let e = digits_last k.invariant.0 (k.i - 1) (omega arith) c.digit.ensures (lt-ltb _ _ c.if-rest-base.true) in
    c.append.ensures ∙ rw (e, k.invariant.1)

pub loop-i-preserved : goal.loop-i-preserved
loop-i-preserved c =
    let k = c.loop-i in
    (digits_more k.invariant.0 (k.i - 1) (omega arith) c.digit.ensures (le-ltb _ _ c.if-rest-base.false), k.invariant.1)

pub append-requires-2 : goal.append-requires-2
append-requires-2 c =
    let k = c.loop-i in
    let e = digits-all k.invariant.0 (omega arith) in
    omega (arith, ap length e, ap length k.invariant.1)

pub returns : goal.returns
returns c =
    let k = c.loop-i in
    let e = digits-all k.invariant.0 (omega arith) in
    c.append-2.ensures ∙ rw (e, k.invariant.1)
