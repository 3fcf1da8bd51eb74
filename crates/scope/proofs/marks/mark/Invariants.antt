-- What is left of the name carries its mark on.
use mathlib.Core.Path.{◌≡◌}
use Prim.Native.Nat.{◌<◌}
use lib.ListN.{drop}
use Rattle.scope.specs.Mark.{mark_from, mark_of}
use Rattle.scope.proofs.marks.mark.Given as goal

abbrev pub invariant-loop-c : goal.invariant-loop-c
invariant-loop-c l = (l.m < 8192) × (mark_of l.cells ≡ mark_from l.m (drop l.c-index l.cells))
