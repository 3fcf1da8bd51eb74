-- The call made is the one that the fields give, and leaves a scope that is not broken.
use Rattle.std.proofs.Common.{◌∙◌, ap, refl, arith}
use lib.ListN.{length-take}
use Rattle.scope.specs.Lent.{on_scope}
use Rattle.cases.specs.After.{call_at}
use Rattle.cases.proofs.AfterLaws.{still_whole, after_model}
use Rattle.cases.proofs.CallLaws.{call_read, call_next}
use Rattle.cases.proofs.calls.call.Goals as goal

pub returns : goal.returns
returns c =
    let x = c.args in
    let d = c.decimal.ensures in
    let n = c.cells-n.ensures in
    let e = c.decimal-2.ensures in
    let r = c.read_list.ensures in
    let a = c.make.ensures in
    let q = call_read x.fields.now.line.now x.fields.now.at (d.0, ap (λ b. b.now) d.1, d.2) (n.0, ap (λ b. b.now) n.1, n.2) (e.0, ap (λ b. b.now) e.1, e.2) c.min-count.ensures _ _ (r.0, r.1, r.3) (simp length-take (omega arith)) refl refl c.from-call.ensures in
    let g = call_next x.fields.now.line.now x.fields.now.at (d.0, ap (λ b. b.now) d.1, d.2) (n.0, ap (λ b. b.now) n.1, n.2) (e.0, ap (λ b. b.now) e.1, e.2) c.min-count.ensures _ _ (r.0, r.1, r.3) (simp length-take (omega arith)) in
    record {
      whole = λ h. still_whole c.make.result _ _ _ _ _ a.1 a.2 a.3 h;
      model = λ h. after_model c.make.result x.s _ _ _ _ (call_at x.fields.now.line.now x.fields.now.at) a.1 a.2 (a.0 ∙ ap (on_scope _) q) h;
      next = (r.2 ∙ e.1 ∙ n.1 ∙ d.1, g);
      answer = a.0 ∙ ap (on_scope _) q;
    }
