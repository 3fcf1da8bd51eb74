-- The window of twelve characters, and the words and symbols that are tried on it, in the source's order.
use Rattle.std.specs.Prelude.{Bool, true, false, cond, ◌&&◌, not, List, [], ◌∷◌, ℕ, zero, suc, ◌+◌, eqb, length, get_or, Option, None, Some}
use Prim.Native.String.{String}
use Rattle.reading.specs.Codes.{codes}
use Rattle.reading.specs.Look.{Look, done, ◌>>=◌, look}
use Rattle.reading.specs.Cells.{holds, is_one_of}
use Rattle.text.specs.Classes.{is_whitespace, is_separator}
use Rattle.lexer.specs.Flags.{Flags, Flag, UnaryTests, Between, flag_of, clear}
use Rattle.lexer.specs.Read.{token, Value, nothing, truth, Outcome, outcome}
use Rattle.lexer.specs.Skip.{blanks}
use Rattle.lexer.specs.TokenType

-- 01: whitespace and end are shown as a space.
abbrev pub shown : Option ℕ → ℕ
shown None = 0x20
shown (Some c) = cond (is_whitespace c) 0x20 c

unfoldable pub window : ℕ → ℕ → Look (List ℕ)
window zero i = done []
window (suc k) i = do
  c ← look i
  w ← window k (suc i)
  done (shown c ∷ w)

-- What must stand behind a word: nothing asked, a character of the class in the window's next place, or one behind optional whitespace.
pub data Follow : Type 0 where
  anything : Follow
  next : (ℕ → Bool) → Follow
  ahead : (ℕ → Bool) → Follow

-- The state that a word is taken in.
pub data When : Type 0 where
  always : When
  if_set : Flag → When
  if_clear : Flag → When

pub record Row : Type 0 where
  pub word : List ℕ
  pub follow : Follow
  pub when : When
  pub type : ℕ
  pub value : Value

abbrev pub taken : When → Flags → Bool
taken always f = true
taken (if_set g) f = flag_of g f
taken (if_clear g) f = not (flag_of g f)

abbrev pub row : String → Follow → When → ℕ → Value → Row
row s n w k v = record { word = codes s; follow = n; when = w; type = k; value = v }

-- A keyword before a space, a literal before a separator, a word before one of some characters, a symbol.
abbrev pub keyword : String → ℕ → Row
keyword s k = row s (next (eqb 0x20)) always k nothing

abbrev pub literal : String → ℕ → Value → Row
literal s k v = row s (next is_separator) always k v

abbrev pub before : String → String → ℕ → Row
before cs s k = row s (ahead (is_one_of (codes cs))) always k nothing

abbrev pub symbol : String → ℕ → Row
symbol s k = row s anything always k nothing

unfoldable pub words : List Row
words =
    keyword "satisfies" TokenType.Satisfies
    ∷ keyword "external" TokenType.External
    ∷ before "(<" "function" TokenType.Function
    ∷ keyword "instance" TokenType.Instance
    ∷ keyword "between" TokenType.Between
    ∷ before "<" "context" TokenType.Context
    ∷ keyword "return" TokenType.Return
    ∷ keyword "every" TokenType.Every
    ∷ literal "false" TokenType.Boolean (truth false)
    ∷ before "<" "range" TokenType.Range
    ∷ literal "null" TokenType.Null nothing
    ∷ keyword "else" TokenType.Else
    ∷ before "<" "list" TokenType.List
    ∷ keyword "some" TokenType.Some
    ∷ keyword "then" TokenType.Then
    ∷ literal "true" TokenType.Boolean (truth true)
    ∷ row "and" (next (eqb 0x20)) (if_clear Between) TokenType.And nothing
    ∷ row "and" (next (eqb 0x20)) (if_set Between) TokenType.BetweenAnd nothing
    ∷ keyword "for" TokenType.For
    ∷ row "not" (next (is_one_of (codes " ("))) (if_set UnaryTests) TokenType.Not nothing
    ∷ keyword "if" TokenType.If
    ∷ keyword "in" TokenType.In
    ∷ keyword "of" TokenType.Of
    ∷ keyword "or" TokenType.Or
    ∷ symbol ".." TokenType.Ellipsis
    ∷ symbol "**" TokenType.Exp
    ∷ symbol "!=" TokenType.Ne
    ∷ symbol "<=" TokenType.Le
    ∷ symbol ">=" TokenType.Ge
    ∷ symbol "->" TokenType.RightArrow
    ∷ []

unfoldable pub symbols : List Row
symbols =
    symbol "." TokenType.Dot
    ∷ symbol "," TokenType.Comma
    ∷ symbol ":" TokenType.Colon
    ∷ symbol "+" TokenType.Plus
    ∷ symbol "-" TokenType.Minus
    ∷ symbol "*" TokenType.Mul
    ∷ symbol "/" TokenType.Div
    ∷ symbol "=" TokenType.Eq
    ∷ symbol "<" TokenType.Lt
    ∷ symbol ">" TokenType.Gt
    ∷ symbol "(" TokenType.LeftParen
    ∷ symbol ")" TokenType.RightParen
    ∷ symbol "[" TokenType.LeftBracket
    ∷ symbol "]" TokenType.RightBracket
    ∷ symbol "{" TokenType.LeftBrace
    ∷ symbol "}" TokenType.RightBrace
    ∷ symbol "@" TokenType.At
    ∷ []

abbrev pub leads : List ℕ → List ℕ → Bool
leads [] w = true
leads (x ∷ xs) [] = false
leads (x ∷ xs) (c ∷ w) = eqb x c && leads xs w

-- 01: BetweenAnd clears `between`.
abbrev pub after_word : ℕ → Flags → Flags
after_word k f = cond (eqb k TokenType.BetweenAnd) (clear Between f) f

module _ (fuel : ℕ) where
  -- Whether what must follow stands behind a word of k characters; the window begins at i.
  abbrev pub is_followed : Follow → List ℕ → ℕ → ℕ → Look Bool
  is_followed anything w k i = done true
  is_followed (next p) w k i = done (p (get_or w k 0x20))
  is_followed (ahead p) w k i = do
    j ← blanks fuel (i + k)
    c ← look j
    done (holds p c)

  -- The first row that fits the window, or else the reading given.
  unfoldable pub first_of : List Row → Flags → List ℕ → ℕ → Look Outcome → Look Outcome
  first_of [] f w i otherwise = otherwise
  first_of (r ∷ rs) f w i otherwise = cond (taken r.when f && leads r.word w)
      (do
        ok ← is_followed r.follow w (length r.word) i
        cond ok (done (outcome (token r.type r.value) (i + length r.word) (after_word r.type f))) (first_of rs f w i otherwise))
      (first_of rs f w i otherwise)
