-- The definition's tests in order; a row behind the parsed names is written last.
use Rattle.std.proofs.Common.{rules, ◌+◌}
use native.Mathlib.Omega.{arith}
use mathlib.Core.Path.{refl, sym, ◌∙◌}
use Rattle.scope.specs.Answers.{lent}
use Rattle.scope.proofs.SoundLaws.{sound, short_name}
use Rattle.scope_calls.proofs.WholeLaws.{done_as}
use Rattle.scope_calls.proofs.AddLaws.{known_as, add_broken, add_known, add_full, add_new, add_whole}
use Rattle.scope_calls.proofs.parsed.add_parsed_name.Goals as goal

pub returns-then-is_broken_name : goal.returns-then-is_broken_name
returns-then-is_broken_name c =
    let a = c.args in
    (add_broken a.name.now a.s a.slots.now a.names.now c.in_ok-scope.ensures.3 (sym c.is_broken_name.ensures ∙ c.if-is_broken_name.true), refl, refl, tt)

pub returns-then-has_name : goal.returns-then-has_name
returns-then-has_name c =
    let a = c.args in
    let ok = c.in_ok-scope.ensures.3 in
    (add_known a.name.now a.s a.slots.now a.names.now ok (sym c.is_broken_name.ensures ∙ c.if-is_broken_name.false) (known_as a.name.now c.has_name.ensures c.parsed.ensures c.in_ok-scope.ensures c.if-has_name.true), tt, tt, ok)

pub returns-then-s-ge-MAX_PARSED : goal.returns-then-s-ge-MAX_PARSED
returns-then-s-ge-MAX_PARSED c =
    let a = c.args in
    (add_full a.name.now a.s a.slots.now a.names.now c.in_ok-scope.ensures.3 (sym c.is_broken_name.ensures ∙ c.if-is_broken_name.false) (known_as a.name.now c.has_name.ensures c.parsed.ensures c.in_ok-scope.ensures c.if-has_name.false) (omega arith), refl, refl, tt)

pub put-requires : goal.put-requires
put-requires c =
    let a = c.args in
    let w = (sound (lent a.s a.slots.now a.names.now) c.in_ok-scope.ensures.3).limits in
    (omega arith, omega arith, short_name a.name.now (sym c.is_broken_name.ensures ∙ c.if-is_broken_name.false))

pub returns : goal.returns
returns c =
    let a = c.args in
    let ok = c.in_ok-scope.ensures.3 in
    let u = sym c.is_broken_name.ensures ∙ c.if-is_broken_name.false in
    let v = known_as a.name.now c.has_name.ensures c.parsed.ensures c.in_ok-scope.ensures c.if-has_name.false in
    let w = c.put.ensures.written in
    done_as (record { contexts = a.s.contexts; entries = a.s.entries; parsed = a.s.parsed + 1 }) (add_new a.name.now a.s a.slots.now a.names.now ok u v 0 0 0 (omega arith) w) (add_whole a.name.now a.s a.slots.now a.names.now ok u v 0 0 0 (omega arith) w) (search rules) (search rules)
