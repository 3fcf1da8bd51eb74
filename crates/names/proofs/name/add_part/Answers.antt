-- A space or none, then the part.
use Rattle.std.proofs.Common.{arith}
use Rattle.text.proofs.OutputLaws.{adds_more}
use Rattle.names.specs.Spelling.{laid}
use Rattle.names.proofs.name.add_part.Goals as goal
use Rattle.names.proofs.name.add_part.Goals.{then-not-tight, else-not-tight}

pub push-requires : goal.push-requires
unfolding laid
push-requires c = omega (arith, rw c.if-not-tight.true at c.requires)

pub append-requires : goal.append-requires
unfolding laid
append-requires c = elim c.if-not-tight.branch [
  | then-not-tight w ↦ rw w.out-is (omega (arith, rw w.if-not-tight.true at c.requires, w.push.ensures.further.size, w.push.ensures.same))
  | else-not-tight w ↦ rw w.out-is (omega (arith, rw w.if-not-tight.false at c.requires))
]

pub returns : goal.returns
unfolding laid
returns c = elim c.if-not-tight.branch [
  | then-not-tight w ↦ rw w.if-not-tight.true (adds_more w.push.ensures (rw w.out-is at c.append.ensures))
  | else-not-tight w ↦ rw w.if-not-tight.false (rw w.out-is at c.append.ensures)
]
