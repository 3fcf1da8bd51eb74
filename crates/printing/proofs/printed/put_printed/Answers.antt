-- The way out tells how the bytes were opened.
use Rattle.std.proofs.Common.{refl, ap, length, ◌∙◌, replicate, arith}
use Rattle.text.specs.Opening.{answered}
use Rattle.text.specs.Refusals.{too_long}
use Rattle.text.specs.RefusalNumber.{number_of}
use Rattle.printing.proofs.RoomLaws.{refused_short}
use Rattle.printing.proofs.PrintedLaws.{printed_refused}
use Rattle.printing.proofs.printed.put_printed.Goals as goal

pub put_refused-requires : goal.put_refused-requires
put_refused-requires c = omega (arith, refused_short too_long 0, ap length c.requires)

pub put_refused-requires-in-Err : goal.put_refused-requires-in-Err
put_refused-requires-in-Err c = omega (arith, refused_short (number_of c.in-Err.refused.refusal) c.in-Err.refused.place, ap length c.requires)

pub returns-in-Err : goal.returns-in-Err
returns-in-Err c =
    let e = c.open_bytes.ensures in
    let p = printed_refused c.args.bytes.now (replicate 2048 0) (omega arith) refl e.answer (ap answered c.in-Err.is) in
    c.put_refused-in-Err.ensures ∙ rw c.requires p
