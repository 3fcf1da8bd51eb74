-- Each turn reads one code point and passes a comma.
use Rattle.std.proofs.Common.{arith, refl, ap, length}
use Rattle.cases.proofs.LaidLaws.{lays_rest}
use Rattle.cases.proofs.PointLaws.{reading_none, reading_more, reading_last, reading_up, reading_end}
use Rattle.cases.proofs.fields.Fields.code_points.Goals as goal

pub loop-self-init : goal.loop-self-init
loop-self-init c = (refl, reading_none (omega arith))

pub returns-then-not-passes : goal.returns-then-not-passes
returns-then-not-passes c =
    let v = c.loop-self.invariant in
    let h = rw v.0 at c.loop-self-test.true in
    let p = rw v.0 at c.code_point-k.ensures in
    let q = rw p.1 at c.passes.ensures in
    let w = lays_rest c.loop-self.out c.loop-self.k v.1.cells.fits p.0 in
    let z = reading_last v.1 h w p.2 q.0 q.2 c.if-not-passes.true in
    (z.0, q.1, z.1)

pub loop-self-smaller : goal.loop-self-smaller
loop-self-smaller c =
    let v = c.loop-self.invariant in
    let h = rw v.0 at c.loop-self-test.true in
    let p = rw v.0 at c.code_point-k.ensures in
    let q = rw p.1 at c.passes.ensures in
    let w = lays_rest c.loop-self.out c.loop-self.k v.1.cells.fits p.0 in
    let z = reading_up v.1 h w p.2 q.0 q.2 c.if-not-passes.false in
    omega (arith, z, h, ap (λ b. length b.now) q.1, ap (λ b. length b.now) v.0)

pub loop-self-preserved : goal.loop-self-preserved
loop-self-preserved c =
    let v = c.loop-self.invariant in
    let h = rw v.0 at c.loop-self-test.true in
    let p = rw v.0 at c.code_point-k.ensures in
    let q = rw p.1 at c.passes.ensures in
    let w = lays_rest c.loop-self.out c.loop-self.k v.1.cells.fits p.0 in
    (q.1, reading_more v.1 h w p.2 q.0 q.2 c.if-not-passes.false)

pub returns : goal.returns
returns c =
    let v = c.loop-self.invariant in
    let z = reading_end v.1 (rw v.0 at c.loop-self-test.false) in
    (z.0, v.0, z.1)
