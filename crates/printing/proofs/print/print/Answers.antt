-- The cells hold all that is printed, and all of it is ASCII.
use Rattle.std.proofs.Common.{ap, length, ◌∙◌, arith}
use Rattle.printing.proofs.AsciiLaws.{printed_bytes}
use Rattle.printing.proofs.print.print.Goals as goal

pub put_bytes-requires : goal.put_bytes-requires
put_bytes-requires c =
    let b = c.args.bytes.now in
    let e = c.cells-cells.ensures.value ∙ c.put_printed.ensures in
    (omega (arith, ap length c.cells-cells.ensures.value, c.cells-cells.ensures.fits), λ i h. rw e (printed_bytes b i (rw (← e) h)))
