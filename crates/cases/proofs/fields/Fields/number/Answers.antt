-- Each digit goes behind the number so far, and no other byte is passed.
use Rattle.std.proofs.Common.{arith, ap, refl, ◌∙◌}
use Rattle.std.specs.Option.{unwrap_or}
use Rattle.text.specs.Hex.{hex_value}
use Rattle.cases.proofs.FieldLaws.{digits_stop, digits-end, digits_out, digits_next}
use Rattle.cases.proofs.PlaceLaws.{rest_item, rest_in, rest_out}
use Rattle.cases.proofs.fields.Fields.number.Goals as goal

pub returns-in_default : goal.returns-in_default
returns-in_default c =
    let v = c.loop-b.invariant in
    let d = ap (λ o. unwrap_or o 16) (c.in-Some.ensures ∙ ap hex_value (c.from.ensures ∙ rest_item _ _ _ v.2 v.1)) in
    let q = digits_stop v.3 (digits_out _ _ _ _ (rest_in _ _ _ v.2 v.1 c.loop-b-test.true) (omega (arith, d))) in
    (q.0, v.0, q.1)

pub returns-in_default-2 : goal.returns-in_default-2
returns-in_default-2 c =
    let v = c.loop-b.invariant in
    let d = ap (λ o. unwrap_or o 16) (c.in_default.ensures ∙ ap hex_value (c.from.ensures ∙ rest_item _ _ _ v.2 v.1)) in
    let q = digits_stop v.3 (digits_out _ _ _ _ (rest_in _ _ _ v.2 v.1 c.loop-b-test.true) (omega (arith, d))) in
    (q.0, v.0, q.1)

pub loop-b-preserved : goal.loop-b-preserved
loop-b-preserved c =
    let v = c.loop-b.invariant in
    let d = ap (λ o. unwrap_or o 16) (c.in-Some.ensures ∙ ap hex_value (c.from.ensures ∙ rest_item _ _ _ v.2 v.1)) in
    (v.0, omega arith, v.2, digits_next v.3 (rest_in _ _ _ v.2 v.1 c.loop-b-test.true) d c.if-d-base.true refl)

pub returns : goal.returns
returns c =
    let v = c.loop-b.invariant in
    let q = digits_stop v.3 (digits-end _ _ _ _ (rest_out _ _ _ v.2 v.1 c.loop-b-test.false)) in
    (q.0, v.0, q.1)
