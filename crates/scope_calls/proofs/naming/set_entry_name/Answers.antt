-- A variable with nothing below it.
use native.Mathlib.Omega.{arith}
use mathlib.Core.Path.{refl, sym, ◌∙◌}
use Rattle.scope.specs.Broken.{any_broken, is_broken_entry}
use Rattle.scope.specs.Lent.{any_outside}
use Rattle.scope.specs.Listing.{any_broken_to}
use Rattle.scope.specs.Answers.{lent}
use Rattle.scope.proofs.SoundLaws.{sound}
use Rattle.scope_calls.proofs.NameCallLaws.{entry_broken, entry-added}
use Rattle.scope_calls.proofs.naming.set_entry_name.Goals as goal

pub returns-then-is_broken_name : goal.returns-then-is_broken_name
returns-then-is_broken_name c =
    let a = c.args in
    (entry_broken a.s a.slots.now a.names.now c.in_ok-checked.ensures.3 a.name.now (sym c.is_broken_name.ensures ∙ c.if-is_broken_name.true), refl, refl, tt)

pub overflow_cast-list : goal.overflow_cast-list
overflow_cast-list c = let a = c.args in let w = (sound (lent a.s a.slots.now a.names.now) c.in_ok-checked.ensures.3).limits in omega arith

pub invariant_of-list : goal.invariant_of-list
unfolding any_outside
invariant_of-list c = record { inside = refl }

pub add-requires : goal.add-requires
unfolding any_broken_to any_broken is_broken_entry
add-requires c = (c.in_ok-checked.ensures.3, refl, refl, rw (sym c.is_broken_name.ensures ∙ c.if-is_broken_name.false))

pub returns : goal.returns
returns c =
    let a = c.args in
    let e = c.add.ensures in
    (entry-added a.s a.slots.now a.names.now c.in_ok-checked.ensures.3 a.name.now (sym c.is_broken_name.ensures ∙ c.if-is_broken_name.false) e.0, e.1, e.2, e.3)
