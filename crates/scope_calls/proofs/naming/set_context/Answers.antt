-- The definition's tests in order.
use Rattle.std.proofs.Common.{◌-◌}
use native.Mathlib.Omega.{arith}
use mathlib.Core.Path.{refl, sym, ◌∙◌}
use Rattle.scope.specs.Limits.{max_depth}
use Rattle.scope.specs.Lent.{listed}
use Rattle.scope.specs.Answers.{lent}
use Rattle.scope.proofs.SoundLaws.{sound}
use Rattle.lists.proofs.OneContext.{listed_in}
use Rattle.scope_calls.proofs.AppendLaws.{listed_as, inside_as, broken_as}
use Rattle.scope_calls.proofs.DeeperLaws.{list_below}
use Rattle.scope_calls.proofs.NameCallLaws.{context_name, context_broken, context_added}
use Rattle.scope_calls.proofs.naming.set_context.Goals as goal
use Rattle.scope_calls.proofs.naming.set_context.Goals.{then-is_broken_name-via-then-is_broken_name, then-is_broken_name-via-else-is_broken_name+then-any_broken}

pub overflow_cast-s : goal.overflow_cast-s
overflow_cast-s c = let a = c.args in let w = (sound (lent a.s a.slots.now a.names.now) c.in_ok-checked.ensures.3).limits in omega arith

pub returns-then-is_broken_name : goal.returns-then-is_broken_name
returns-then-is_broken_name c =
    let a = c.args in
    let ok = c.in_ok-checked.ensures.3 in
    let p = c.in_ok-list.ensures in
    let u = inside_as p c.in_ok-list.list.inside in
    elim c.then-is_broken_name.branch [
      | then-is_broken_name-via-then-is_broken_name w ↦ (context_name a.s a.slots.now a.names.now ok a.name.now a.cells.now a.rows.now u (sym c.is_broken_name.ensures ∙ w.if-is_broken_name.true), refl, refl, tt)
      | then-is_broken_name-via-else-is_broken_name+then-any_broken w ↦ (context_broken a.s a.slots.now a.names.now ok a.name.now a.cells.now a.rows.now u (sym c.is_broken_name.ensures ∙ w.if-is_broken_name.false) (broken_as (max_depth - 1) p w.any_broken.ensures w.if-any_broken.true), refl, refl, tt)
    ]

pub add-requires : goal.add-requires
add-requires c =
    let a = c.args in
    let p = c.in_ok-list.ensures in
    let y = sym c.any_broken.ensures ∙ c.if-any_broken.false in
    (c.in_ok-checked.ensures.3, p.0, y, rw (listed_as p, list_below a.s.contexts a.name.now (listed a.s.contexts a.cells.now a.rows.now) (listed_in a.s.contexts a.cells.now a.rows.now), sym c.is_broken_name.ensures ∙ c.if-is_broken_name.false) (broken_as (max_depth - 1) p c.any_broken.ensures c.if-any_broken.false))

pub returns : goal.returns
returns c =
    let a = c.args in
    let p = c.in_ok-list.ensures in
    let u = inside_as p c.in_ok-list.list.inside in
    let v = sym c.is_broken_name.ensures ∙ c.if-is_broken_name.false in
    let y = broken_as (max_depth - 1) p c.any_broken.ensures c.if-any_broken.false in
    let e = c.add.ensures in
    (context_added a.s a.slots.now a.names.now c.in_ok-checked.ensures.3 a.name.now a.cells.now a.rows.now u v y (rw (listed_as p) at e.0), e.1, e.2, e.3)
