-- The rows stay as many, and each call leaves a scope that is not broken and is the model's.
use Rattle.std.proofs.Common.{◌≡◌, ◌+◌, ◌-◌, sym, ◌∙◌, arith}
use Rattle.cases.proofs.AfterLaws.{after_is, calls_more, calls_over}
use Rattle.cases.proofs.calls.scope_of.Goals as goal

pub loop-preserved : goal.loop-preserved
loop-preserved c =
    let v = c.loop.invariant in
    let k = c.call.ensures in
    let n = rw v.0 at k.next in
    let z : c.decimal-end.result - (c.loop.counter + 1) ≡ (c.decimal-end.result - c.loop.counter) - 1 = omega arith in (
      n.0,
      λ h g.
          let m = rw v.0 at (k.model (v.1 h g).0) in
          rw (c.unwrap_or-s.ensures, after_is, z) (k.whole (v.1 h g).0, (v.1 h g).1 ∙ calls_more _ _ _ _ (omega arith) n.1 m),
    )

pub returns : goal.returns
returns c = record {
  whole = λ h g. (c.loop.invariant.1 h g).0;
  model = λ h g. sym ((c.loop.invariant.1 h g).1 ∙ calls_over _ _ _ _ (omega arith));
}
