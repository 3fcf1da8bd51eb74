-- A piece for each code point.
use Rattle.printing.proofs.PieceLaws.{Writing}
use Rattle.printing.proofs.ValueLaws.{point}
use Rattle.printing.proofs.value.put_code_points.Given as goal

abbrev pub invariant-loop-i : goal.invariant-loop-i
invariant-loop-i l = Writing point l.value l.initial.out l.i l.out
