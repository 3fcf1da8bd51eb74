-- A point before a digit, a quote, then the symbols, in the definition's order.
use Rattle.scope.specs.Keys.{is_name}
use Rattle.scope.specs.Sound.{sound_scope}
use Rattle.lexer.specs.FlagsOf.{flags_of}
use native.Mathlib.Omega.{arith}
use mathlib.Core.Path.{refl, sym, ◌∙◌}
use borrow.Author.Tests.{eq-eqb, ne_eqb}
use Rattle.lexer.specs.Window.{symbols}
use Rattle.tokens.proofs.TokenLaws.{takes_as, point_starts, quote_there, case-point, case_quote, case-symbol, row-taken, row_missed}
use Rattle.tokens.proofs.token.behind_words.Goals as goal

pub number_at-requires : goal.number_at-requires
number_at-requires c = (omega arith, omega arith, omega arith, point_starts _ _ c.requires.2 (sym c.begins_with_point.ensures ∙ c.if-begins_with_point.true))

pub returns-then-begins_with_point : goal.returns-then-begins_with_point
returns-then-begins_with_point c =
    let x = c.args in
    (takes_as (case-point (flags_of x.flags) (is_name (sound_scope x.known.now.scope)) x.rest.now x.i c.requires.2 c.begins_with_point.ensures c.if-begins_with_point.true) c.number_at.ensures, refl)

pub string_at-requires : goal.string_at-requires
string_at-requires c = let l = quote_there _ _ c.requires.2 (eq-eqb 0x22 _ c.if-c-eq-QUOTE.true) in (omega arith, omega arith, omega arith)

pub returns-then-c-eq-QUOTE : goal.returns-then-c-eq-QUOTE
returns-then-c-eq-QUOTE c =
    let x = c.args in
    (takes_as (case_quote (flags_of x.flags) (is_name (sound_scope x.known.now.scope)) x.rest.now x.i c.requires.2 c.begins_with_point.ensures c.if-begins_with_point.false (eq-eqb 0x22 _ c.if-c-eq-QUOTE.true)) c.string_at.ensures, refl)

pub returns-in-Some : goal.returns-in-Some
returns-in-Some c =
    let x = c.args in
    (takes_as (case-symbol (flags_of x.flags) (is_name (sound_scope x.known.now.scope)) x.rest.now x.i c.requires.2 c.begins_with_point.ensures c.if-begins_with_point.false (ne_eqb 0x22 _ c.if-c-eq-QUOTE.false)) (row-taken symbols c.first_symbol-m.ensures _ c.in-Some.is c.of_word.ensures), refl)

pub returns-in-None : goal.returns-in-None
returns-in-None c =
    let x = c.args in
    (takes_as (case-symbol (flags_of x.flags) (is_name (sound_scope x.known.now.scope)) x.rest.now x.i c.requires.2 c.begins_with_point.ensures c.if-begins_with_point.false (ne_eqb 0x22 _ c.if-c-eq-QUOTE.false)) (row_missed symbols c.first_symbol-m.ensures c.in-None.is c.other_cases.ensures.0), c.other_cases.ensures.1)
