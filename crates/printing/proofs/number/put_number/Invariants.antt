-- The digits so far stand from the index on, and nothing is written yet.
use Rattle.std.proofs.Common.{◌≡◌}
use Rattle.printing.proofs.DigitLaws.{Digits}
use Rattle.printing.proofs.number.put_number.Given as goal

abbrev pub invariant-loop-i : goal.invariant-loop-i
invariant-loop-i l = Digits l.base l.n l.digits l.i l.rest × (l.out ≡ l.initial.out)
