-- The form is right, and the call answers for the scope that the numbers stand for.
use Rattle.std.proofs.Common.{rules, ◌≡◌, true}
use Rattle.reading.proofs.Test.{both}
use Rattle.feel_lexer.specs.Exported.{is_answer}
use Rattle.feel_lexer.proofs.RecordLaws.{checked_ok, told_as}
use Rattle.feel_lexer.proofs.record.feel_repair.Goals as goal

pub returns : goal.returns
returns c =
    let repaired = rw c.scope_of.ensures at c.repair-made.ensures.repaired in
    let formed : is_answer c.args.answer.now ≡ true = (both _ _ (checked_ok c.checked.ensures c.in_default.is)).0 in
    rw (formed, c.number.ensures, c.after.ensures.0, c.after.ensures.1) (told_as _ _ repaired.answer _ repaired.left (search rules))
