-- The forms are right, and the call answers for the flags and the scope that the numbers stand for.
use Rattle.std.proofs.Common.{rules}
use Rattle.feel_lexer.proofs.RecordLaws.{checked_ok, told_as}
use Rattle.feel_lexer.proofs.record.feel_run.Goals as goal

pub returns : goal.returns
returns c =
    let ran = rw (c.from_bits.ensures, c.scope_of.ensures) at c.run-made.ensures.ran in
    let formed = checked_ok c.checked.ensures c.in_default.is in
    rw (formed, c.number.ensures, c.after.ensures.0, c.after.ensures.1) (told_as _ _ ran.answer _ ran.left (search rules))
