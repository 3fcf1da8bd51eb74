-- The number, its times, and so many cells written.
use Rattle.cases.proofs.LaidLaws.{lays_same}
use Rattle.cases.proofs.PointLaws.{point}
use Rattle.cases.proofs.fields.Fields.code_point.Goals as goal

pub returns : goal.returns
returns c =
    let n = c.number-c.ensures in
    let t = rw n.1 at c.times.ensures in
    let f = c.fill.ensures.after (λ y e. e) in
    let p = point c.args.self.now.line.now c.args.self.now.at n.0 n.2 t.0 t.2 (lays_same c.args.out.now _ _ c.min-n.ensures f) in
    (p.0, t.1, p.1)
