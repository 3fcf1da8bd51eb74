-- The loop has added up what the first m parts hold; the part that passes the cap ends it.
use Rattle.lexer.proofs.BoundLaws.{Bounding}
use Rattle.lexer.proofs.bound.bound.Given as goal

abbrev pub invariant-loop-m : goal.invariant-loop-m
invariant-loop-m l = Bounding l.rest l.from l.n l.i l.m l.total
