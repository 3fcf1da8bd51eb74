-- The bits of the bytes that are left go behind those so far.
use Rattle.text.proofs.Utf8Laws.{Bits}
use Rattle.text.proofs.utf8.read_long.Given as goal

abbrev pub invariant-loop-d : goal.invariant-loop-d
invariant-loop-d l = Bits l.tail l.initial.c l.d-index l.c
