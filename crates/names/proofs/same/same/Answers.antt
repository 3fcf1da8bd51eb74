-- By the lengths, then cell by cell.
use Rattle.std.proofs.Common.{◌∙◌, sym}
use borrow.Author.Tests.{ne_eqb}
use Rattle.names.proofs.SameLaws.{same_length, same_zip}
use Rattle.names.proofs.same.same.Goals as goal

pub returns-then-s-t : goal.returns-then-s-t
returns-then-s-t c = c.agree.ensures ∙ same_zip c.args.t.now c.args.s.now (sym c.if-s-t.true)

pub returns-else-s-t : goal.returns-else-s-t
returns-else-s-t c = ne_eqb _ _ c.if-s-t.false ∙ sym (same_length c.args.s.now c.args.t.now c.if-s-t.false)
