-- The token reader: one reading of the text from the state's position on.
use Rattle.std.specs.Prelude.{Bool, cond, ◌&&◌, List, [], ℕ, ◌+◌, eqb, get_or}
use Rattle.reading.specs.Codes.{codes}
use Rattle.reading.specs.Look.{Look, done, ◌>>=◌}
use Rattle.text.specs.Limits.{max_chars}
use Rattle.text.specs.Classes.{is_digit, is_name_start}
use Rattle.names.specs.Same.{same}
use Rattle.lexer.specs.Flags.{Flags, UnaryTests, clear}
use Rattle.lexer.specs.Read.{Read, token, nothing, Outcome, outcome}
use Rattle.lexer.specs.Skip.{skip}
use Rattle.lexer.specs.Number.{read_number}
use Rattle.lexer.specs.Text.{read_string}
use Rattle.lexer.specs.Naming.{read_name}
use Rattle.lexer.specs.Window.{window, words, symbols, first_of}
use Rattle.lexer.specs.TokenType

-- The flags have no part in what was read.
abbrev pub with_flags : Flags → Look (Read × ℕ) → Look Outcome
with_flags f m = do
  r ← m
  done (outcome r.0 r.1 f)

module _ (fuel : ℕ) (f : Flags) (is_name : List ℕ → Bool) (w : List ℕ) (i : ℕ) where
  -- Behind words and symbols: a digit, the start of a name, the end, or nothing known.
  abbrev pub other_cases : Look Outcome
  other_cases =
      cond (is_digit (get_or w 0 0)) (with_flags f (read_number fuel i))
      (cond (is_name_start (get_or w 0 0)) (read_name fuel f is_name i)
      (cond (same w (codes "            "))
      (done (outcome (token TokenType.YyEof nothing) i f))
      (done (outcome (token TokenType.YyUndef nothing) i f))))

  -- The quote alone stands before the symbols, none of which it is.
  abbrev pub behind_words : Look Outcome
  behind_words =
      cond (eqb 0x2E (get_or w 0 0) && is_digit (get_or w 1 0)) (with_flags f (read_number fuel i))
      (cond (eqb 0x22 (get_or w 0 0)) (with_flags f (read_string fuel [] (i + 1)))
      (first_of fuel symbols f w i other_cases))

  -- 01: the window's cases are tried in the source's order.
  abbrev pub cases : Look Outcome
  cases = first_of fuel words f w i behind_words

-- 01: every token but the start token clears `unary_tests`, and so do 3 to 8.
unfoldable pub token_with : ℕ → (List ℕ → Bool) → Flags → Look Outcome
token_with fuel is_name f = do
  i ← skip fuel
  w ← window 12 i
  o ← cases fuel f is_name w i
  done (outcome o.read o.used (clear UnaryTests o.flags))

-- One turn more than a text has characters.
abbrev pub fuel : ℕ
fuel = max_chars + 1

abbrev pub read_token : (List ℕ → Bool) → Flags → Look Outcome
read_token is_name f = token_with fuel is_name f
