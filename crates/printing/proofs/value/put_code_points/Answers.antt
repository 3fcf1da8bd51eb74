-- A piece for each code point.
use Rattle.std.proofs.Common.{ap, length, length-append, ℕ, ◌++◌, ◌∙◌, arith}
use borrow.Author.Tests.{lt-ltb, le-ltb}
use Rattle.printing.proofs.PieceLaws.{writing_room, writing_all}
use Rattle.printing.proofs.ValueLaws.{point, points}
use Rattle.printing.proofs.value.put_code_points.Goals as goal
use Rattle.printing.proofs.value.put_code_points.Goals.{then-i-gt0, else-i-gt0}

pub push-requires : goal.push-requires
push-requires c =
    let v = c.args.value.now in
    let r = rw (lt-ltb _ _ c.if-i-gt0.true) at (writing_room point v 0 c.loop-i.invariant c.loop-i-test.true) in
    omega (arith, r, ap length (points v))

pub put_number-requires : goal.put_number-requires
put_number-requires c =
    let v = c.args.value.now in
    elim c.if-i-gt0.branch [
      | then-i-gt0 w ↦
          let r = rw (lt-ltb _ _ w.if-i-gt0.true) at (writing_room point v 0 c.loop-i.invariant c.loop-i-test.true) in
          (omega arith, omega arith, omega (arith, r, ap length w.out-is, ap length w.push.ensures, length-append {A = ℕ}, ap length (points v)))
      | else-i-gt0 w ↦
          let r = rw (le-ltb _ _ w.if-i-gt0.false) at (writing_room point v 0 c.loop-i.invariant c.loop-i-test.true) in
          (omega arith, omega arith, omega (arith, r, ap length w.out-is, ap length (points v)))
    ]

pub returns : goal.returns
returns c =
    writing_all point _ c.loop-i.invariant (omega arith) ∙ ap (λ l. c.args.out.now ++ l) (points c.args.value.now)
