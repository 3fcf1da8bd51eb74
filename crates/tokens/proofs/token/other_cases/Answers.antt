-- The window's first cell decides, in the definition's order.
use Rattle.scope.specs.Keys.{is_name}
use Rattle.scope.specs.Sound.{sound_scope}
use Rattle.lexer.specs.FlagsOf.{flags_of}
use native.Mathlib.Omega.{arith}
use mathlib.Core.Path.{refl, sym, ◌∙◌}
use Rattle.tokens.proofs.TokenLaws.{takes_as, takes_later, takes_done, digit_starts, name_there, case-digit, case_name, case-end, case_nothing}
use Rattle.tokens.proofs.token.other_cases.Goals as goal

pub number_at-requires : goal.number_at-requires
number_at-requires c = (omega arith, omega arith, omega arith, digit_starts _ _ c.requires.2 (sym c.has.ensures ∙ c.if-has.true))

pub returns-then-has : goal.returns-then-has
returns-then-has c =
    let x = c.args in
    (takes_as (case-digit (flags_of x.flags) (is_name (sound_scope x.known.now.scope)) x.rest.now x.i c.requires.2 c.has.ensures c.if-has.true) c.number_at.ensures, refl)

pub read_name-o-requires : goal.read_name-o-requires
read_name-o-requires c = (omega arith, name_there _ _ c.requires.2 (sym c.has-2.ensures ∙ c.if-has-2.true), omega arith, c.requires.4)

pub returns-then-has-2 : goal.returns-then-has-2
returns-then-has-2 c =
    let x = c.args in
    (takes_as (case_name (flags_of x.flags) (is_name (sound_scope x.known.now.scope)) x.rest.now x.i c.requires.2 c.has.ensures c.if-has.false c.has-2.ensures c.if-has-2.true) (takes_later c.read_name-o.ensures.0 _ c.max.ensures), c.read_name-o.ensures.1)

pub returns-then-is_blank : goal.returns-then-is_blank
returns-then-is_blank c =
    let x = c.args in
    (takes_as (case-end (flags_of x.flags) (is_name (sound_scope x.known.now.scope)) x.rest.now x.i c.requires.2 c.has.ensures c.if-has.false c.has-2.ensures c.if-has-2.false c.is_blank.ensures c.if-is_blank.true) (takes_done _ _ _ (c.plain.ensures _)), refl)

pub returns : goal.returns
returns c =
    let x = c.args in
    (takes_as (case_nothing (flags_of x.flags) (is_name (sound_scope x.known.now.scope)) x.rest.now x.i c.requires.2 c.has.ensures c.if-has.false c.has-2.ensures c.if-has-2.false c.is_blank.ensures c.if-is_blank.false) (takes_done _ _ _ (c.plain-2.ensures _)), refl)
