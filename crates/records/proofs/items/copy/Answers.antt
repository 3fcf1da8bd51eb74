-- What is written at i is made of the value at i, so that one more is filled.
use mathlib.Core.Path.{ap, ◌∙◌}
use native.Mathlib.Omega.{arith}
use lib.ListN.{set}
use Rattle.records.proofs.Filling.{filled, filled_next, copies_all}
use Rattle.records.proofs.items.copy.Goals as goal

pub loop-i-preserved : goal.loop-i-preserved
loop-i-preserved g c = record {
  so_far = λ f h.
      let x = c.index-from-i.result in
      let i = c.loop-i.i in
      let zs = filled f i c.args.from.now c.args.to.now in
      rw (c.loop-i.invariant.so_far f h, h x c.from.result c.from.ensures) (ap (λ y. set zs i (f y)) c.index-from-i.is ∙ filled_next f x i c.args.from.now c.args.to.now (omega arith) (omega arith));
}

pub returns : goal.returns
returns g c = record { copies = λ f h. copies_all f c.args.from.now c.args.to.now (omega arith) (omega arith) (c.loop-i.invariant.so_far f h) }
