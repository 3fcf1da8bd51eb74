-- The loop has read the digits before `at`, and their value stays below the power of 16 that they allow.
use Prim.Native.Nat.{◌+◌, ◌-◌}
use Rattle.lexer.proofs.StringLaws.{HexAt}
use Rattle.lexer.proofs.string.read_hex.Given as goal

abbrev pub invariant-loop-at : goal.invariant-loop-at
invariant-loop-at l = HexAt l.rest l.from l.count l.value l.at (l.from + l.count - l.at)
