-- A word that fits, or what stands behind the words.
use native.Mathlib.Omega.{arith}
use mathlib.Core.Path.{refl}
use Rattle.lexer.specs.Window.{words}
use Rattle.tokens.proofs.TokenLaws.{row-taken, row_missed}
use Rattle.tokens.proofs.token.by_window.Goals as goal

pub behind_words-requires : goal.behind_words-requires
behind_words-requires c = (omega arith, omega arith, c.shown_at-c.ensures, omega arith, c.first_word-m.ensures.near, c.requires.3)

pub returns-in-Some : goal.returns-in-Some
returns-in-Some c = (row-taken words c.first_word-m.ensures _ c.in-Some.is c.of_word.ensures, refl)

pub returns-in-None : goal.returns-in-None
returns-in-None c = (row_missed words c.first_word-m.ensures c.in-None.is c.behind_words.ensures.0, c.behind_words.ensures.1)
