-- The first character decides between the words of letters and the symbols of two characters.
use mathlib.Core.Path.{refl, ap, ◌∙◌}
use native.Mathlib.Omega.{arith}
use Rattle.std.specs.Prelude.{is_some}
use Rattle.lexer.specs.FlagsOf.{flags_of}
use Rattle.lexer.specs.Shown.{window_of}
use Rattle.words.specs.Keywords.{rows_of, are_rows, links_from, place_from, letter_words, pairs, initials}
use Rattle.words.proofs.KeywordLaws.{by_letters, by_pairs, same_rows, sign_matched, two_shown}
use Rattle.words.proofs.keywords.first_word.Goals as goal

pub first_of-requires : goal.first_of-requires
unfolding are_rows links_from place_from initials
first_of-requires c = (refl, refl, c.first_row-first.ensures ∙ ap (place_from 0 initials) c.requires.2, c.window-w.ensures, omega arith, omega arith, omega arith)

pub returns-then-is_some : goal.returns-then-is_some
unfolding letter_words rows_of
returns-then-is_some c =
    by_letters c.args.rest.now c.args.i _ (c.is_some.ensures ∙ ap is_some (c.first_row-first.ensures ∙ ap (place_from 0 initials) c.requires.2)) c.if-is_some.true (same_rows {ss = letter_words} (rw c.window-w.ensures at c.first_of.ensures) refl)

pub returns : goal.returns
unfolding pairs window_of
returns c =
    let t = c.args.rest.now in
    let i = c.args.i in
    by_pairs t i _ (c.is_some.ensures ∙ ap is_some (c.first_row-first.ensures ∙ ap (place_from 0 initials) c.requires.2)) c.if-is_some.false
    (sign_matched pairs _ 2 10 refl t i _ (flags_of c.args.flags) (two_shown t i c.requires.2 c.shown_at-d.ensures) (omega arith) (omega arith) (omega arith) (omega arith)
    _ c.pair.ensures c.of_sign.ensures.0 c.of_sign.ensures.1)
