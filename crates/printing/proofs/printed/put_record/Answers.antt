-- The run is not refused, and the rows and the store that it leaves are the record of its items.
use Rattle.std.proofs.Common.{◌≡◌, ap, length, ◌∙◌, arith, rules}
use Rattle.lexer.specs.Flags.{no_flags}
use Rattle.lexer.specs.FlagsOf.{flags_of}
use Rattle.runs.specs.Print.{lines}
use Rattle.printing.proofs.PrintedLaws.{run-recorded, run-taken}
use Rattle.printing.proofs.printed.put_record.Goals as goal

pub put_lines-requires : goal.put_lines-requires
put_lines-requires c =
    let r : c.rows-2-1.given.0 ≡ c.run.new.room.rows.now = search rules in
    let s : c.store-2-1.given.0 ≡ c.run.new.room.store.now = search rules in
    let o = c.opened.ensures in
    let w = run-recorded c.run.ensures.ran (o.0 _ _) (o.1 _ _ (omega arith) (omega arith)) (omega arith) (omega arith) (omega arith) (omega arith) c.in-Ok.is in
    rw (r, s) (omega (arith, w.fits, ap length c.requires.1, ap length r, ap length s))

pub returns-in-Ok : goal.returns-in-Ok
returns-in-Ok c =
    let r : c.rows-2-1.given.0 ≡ c.run.new.room.rows.now = search rules in
    let s : c.store-2-1.given.0 ≡ c.run.new.room.store.now = search rules in
    let o = c.opened.ensures in
    let w = run-recorded c.run.ensures.ran (o.0 _ _) (o.1 _ _ (omega arith) (omega arith)) (omega arith) (omega arith) (omega arith) (omega arith) c.in-Ok.is in
    let f : flags_of c.default.result ≡ no_flags = search rules in
    c.put_lines.ensures ∙ rw (r, s, c.requires.1) (ap (lines 0) (rw (c.from-start.ensures, f) at w.back))

pub returns-in_default : goal.returns-in_default
returns-in_default c =
    let o = c.opened.ensures in
    absurd (run-taken c.run.ensures.ran (o.0 _ _) (o.1 _ _ (omega arith) (omega arith)) (omega arith) (omega arith) (omega arith) (omega arith) c.in_default.is)
