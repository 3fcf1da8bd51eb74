-- Each turn reads one entry: a row, and the cells of its name.
use Rattle.std.proofs.Common.{◌≡◌, length}
use Rattle.cases.proofs.EntryLaws.{Listing}
use Rattle.cases.proofs.calls.read_list.Given as goal

abbrev pub invariant-loop-row : goal.invariant-loop-row
invariant-loop-row l = (l.fields.line ≡ l.initial.fields.line) × Listing l.initial.fields.line.now l.initial.fields.at (length l.initial.rows) l.initial.rows l.initial.cells l.rows l.cells l.row-index l.k l.fields.at
