-- The count of ones tells how many bytes there are to be, and each is tested; then their bits are put behind one another.
use Rattle.std.proofs.Common.{◌∙◌, arith, sym}
use Rattle.text.proofs.Utf8Laws.{long_short, long_second, long_others, long_fine, shift_lem, bits_none, bits_more, bits_all}
use Rattle.text.proofs.utf8.read_long.Goals as goal
use Rattle.text.proofs.utf8.read_long.Goals.{then-not-is_second-via-then-not-is_second, then-not-is_second-via-else-not-is_second+then-not-all_continue}

pub returns-in_err-tail-clause-sequence : goal.returns-in_err-tail-clause-sequence
returns-in_err-tail-clause-sequence c = c.from_residual.ensures ∙ long_short c.args.b c.args.rest.now (omega arith) c.requires c.leading_ones-k.ensures.count (let h = c.in_err-tail.ensures.lookup.0 in omega (arith, h))

pub returns-in_err-second-clause-sequence : goal.returns-in_err-second-clause-sequence
returns-in_err-second-clause-sequence c =
    let h = c.in_err-second.ensures.cases in
    let l = c.in_ok-tail.ensures.lookup.0 in
    absurd (omega (arith, h, l))

pub returns-then-not-is_second-clause-sequence : goal.returns-then-not-is_second-clause-sequence
returns-then-not-is_second-clause-sequence c =
    let l = c.in_ok-tail.ensures.lookup.0 in
    let i = c.in_ok-second.ensures.cases in
    let k = c.leading_ones-k.ensures.count in
    elim c.then-not-is_second.branch [
      | then-not-is_second-via-then-not-is_second w ↦ long_second c.args.b c.args.rest.now (omega arith) c.requires k l.2 i.0 (omega (arith, l.3)) (sym w.if-not-is_second.true ∙ c.is_second.ensures)
      | then-not-is_second-via-else-not-is_second+then-not-all_continue w ↦ long_others c.args.b c.args.rest.now (omega arith) c.requires k l.2 i.0 (omega (arith, l.3)) (sym w.if-not-is_second.false ∙ c.is_second.ensures) (sym w.if-not-all_continue.true ∙ w.all_continue.ensures)
    ]

pub nonzero_rem-b : goal.nonzero_rem-b
nonzero_rem-b c = let s = shift_lem c.leading_ones-k.result (omega arith) in omega (arith, s.over)

pub loop-d-init : goal.loop-d-init
loop-d-init c = bits_none _ c.args.b c.leading_ones-k.result c.from-c.ensures (omega arith)

pub loop-d-preserved : goal.loop-d-preserved
loop-d-preserved c = rw c.from.ensures (bits_more c.loop-d.invariant (omega arith) (omega (arith, c.in_ok-tail.ensures.lookup.0.3)))

pub returns-clause-sequence : goal.returns-clause-sequence
returns-clause-sequence c =
    let l = c.in_ok-tail.ensures.lookup.0 in
    let i = c.in_ok-second.ensures.cases in
    let k = c.leading_ones-k.ensures.count in
    long_fine c.args.b c.args.rest.now (omega arith) c.requires k l.2 i.0 (omega (arith, l.3)) (sym c.if-not-is_second.false ∙ c.is_second.ensures) (sym c.if-not-all_continue.false ∙ c.all_continue.ensures)
    (rw c.from-c.ensures at (bits_all c.loop-d.invariant (omega arith)))
