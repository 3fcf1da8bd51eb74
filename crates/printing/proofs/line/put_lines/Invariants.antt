-- A piece for each row.
use Rattle.printing.proofs.PieceLaws.{Writing}
use Rattle.printing.proofs.LineLaws.{row_line}
use Rattle.printing.proofs.line.put_lines.Given as goal

abbrev pub invariant-loop-i : goal.invariant-loop-i
invariant-loop-i l = Writing (row_line l.all.store.now) l.all.rows.now l.initial.out l.i l.out
