-- The loop has handed on the characters before i, and counted them.
use Prim.Native.Nat.{◌-◌}
use lib.ListN.{length}
use Rattle.lexer.proofs.StringLaws.{Handing}
use Rattle.lexer.proofs.string.each_char.Given as goal

abbrev pub invariant-loop-c : goal.invariant-loop-c
invariant-loop-c g l = Handing (λ p x q. goal.F-step g p x tt q) l.rest l.from l.i l.n l.initial.take l.take

abbrev pub decreases-loop-c : goal.decreases-loop-c
decreases-loop-c g l = length l.rest - l.i
