-- The spelled prefix fits scratch; what is cleared is what was written.
use Rattle.names.proofs.FlattenLaws.{left_within}
use Rattle.naming.proofs.PrefixLaws.{room, used, asked, restored, filled}
use lib.ListN.{length-take}
use native.Mathlib.Omega.{arith}
use Rattle.naming.proofs.prefix.find_parts.Goals as goal

pub write_parts-k-requires : goal.write_parts-k-requires
write_parts-k-requires c = (omega arith, room _ _ _ _ c.requires.1.room (omega arith))

pub returns-clause-asked : goal.returns-clause-asked
returns-clause-asked c =
    let x = c.args in
    let l = used _ _ x.from x.m c.write_parts-k.ensures c.requires.1.room (omega arith) in
    asked _ x.from x.m c.write_parts-k.ensures (left_within (omega arith) c.flatten-j.ensures) c.find-found.ensures

pub returns-clause-clean : goal.returns-clause-clean
returns-clause-clean c =
    let x = c.args in
    let u = used _ _ x.from x.m c.write_parts-k.ensures c.requires.1.room (omega arith) in
    restored _ x.from x.m c.write_parts-k.ensures (left_within (omega arith) c.flatten-j.ensures) c.requires.1.clean u (filled (c.fill.ensures.after (λ y e. e)) (simp length-take (omega arith)))
