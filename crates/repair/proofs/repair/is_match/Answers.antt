-- The last row never matches; any other by its moved place, then by its flags' number.
use native.Mathlib.Omega.{arith}
use borrow.Author.Tests.{eqb-true, eqb-false, ltb-true}
use Prim.Native.Nat.{◌+◌, ◌<◌}
use lib.ListN.{length}
use mathlib.Core.Path.{sym, ◌∙◌}
use Rattle.repair.proofs.MatchLaws.{looked_last, looked_off, looked_flags}
use Rattle.repair.proofs.repair.is_match.Goals as goal
use Rattle.repair.proofs.repair.is_match.Goals.{then-j-old_rows, else-j-old_rows}

pub returns-then-moved-p : goal.returns-then-moved-p
returns-then-moved-p c = elim c.if-j-old_rows.branch [
  | then-j-old_rows w ↦ looked_flags c.requires.0 _ c.requires.1 c.requires.2 w.if-j-old_rows.true (sym w.moved.ensures ∙ eqb-true _ _ (sym w.value-is ∙ c.if-moved-p.true)) c.from.ensures
  | else-j-old_rows w ↦ let h : c.args.j + 1 < length c.args.old_rows.now = ltb-true _ _ (sym w.value-is ∙ c.if-moved-p.true) in absurd (omega arith)
]

pub returns-else-moved-p : goal.returns-else-moved-p
returns-else-moved-p c = rw c.if-moved-p.false (elim c.if-j-old_rows.branch [
  | then-j-old_rows w ↦ looked_off c.requires.0 _ c.requires.1 c.requires.2 w.if-j-old_rows.true (λ q. eqb-false _ _ (sym w.value-is ∙ c.if-moved-p.false) (w.moved.ensures ∙ q))
  | else-j-old_rows w ↦ looked_last c.requires.0 _ (omega arith)
])
