-- The loop has written the parts before i, and the spelling of the rest goes on from there.
use Rattle.std.proofs.Common.{◌≡◌}
use Rattle.lexer.proofs.PartLaws.{Spelling}
use Rattle.lexer.proofs.parts.write_parts.Given as goal

abbrev pub invariant-loop : goal.invariant-loop
invariant-loop l = record {
  spelling : Spelling l.rest l.initial.written.cells.now l.new l.n l.from l.i l.counter l.written.len l.tight l.written.cells.now;
  same_reference : l.written.cells.ghost_name ≡ l.initial.written.cells.ghost_name;
}
