-- The lexer's state and the token call, with the refusals of the host.
use Rattle.std.specs.Prelude.{true, cond, ◌||◌, List, [], ◌∷◌, ℕ, ◌+◌, ◌*◌, ltb, length, drop, Option, None, Some}
use Rattle.reading.specs.Look.{run}
use Rattle.reading.specs.Cells.{maybe, is_one_of}
use Rattle.reading.specs.Slices.{front, zeros}
use Rattle.text.specs.Limits.{max_chars}
use Rattle.text.specs.Refusals.{too_long, short_slice, broken_scope, beyond_text}
use Rattle.scope.specs.Entries.{ParsingScope}
use Rattle.scope.specs.Keys.{is_name}
use Rattle.scope.specs.Lent.{Lent, is_broken, scope_of}
use Rattle.lexer.specs.Flags.{Flags, Flag, no_flags, put}
use Rattle.lexer.specs.Read.{Read, token, refused, nothing, Outcome, cells_of}
use Rattle.lexer.specs.Token.{read_token}
use Rattle.lexer.specs.TokenType

-- 01: the state is position, five flags and a pending start type.
pub record State : Type 0 where
  pub position : ℕ
  pub flags : Flags
  pub pending : Option ℕ

abbrev pub state : ℕ → Flags → Option ℕ → State
state p f k = record { position = p; flags = f; pending = k }

-- `Lexer::new`.
abbrev pub new_lexer : ℕ → State
new_lexer k = state 0 no_flags (Some k)

-- The five setters: they set, none clears.
abbrev pub set : Flag → State → State
set g s = state s.position (put true g s.flags) s.pending

abbrev pub start_types : List ℕ
start_types =
    TokenType.StartExpression ∷ TokenType.StartBoxedExpression ∷ TokenType.StartTextualExpression ∷ TokenType.StartTextualExpressions ∷ TokenType.StartUnaryTests ∷ TokenType.StartSimpleExpression ∷ TokenType.StartSimpleExpressions ∷ TokenType.StartSimpleValue ∷ TokenType.StartRangeLiteral ∷ []

-- 01: a start type outside the nine gives YyError.
abbrev pub start_read : ℕ → Read
start_read k = token (cond (is_one_of start_types k) k TokenType.YyError) nothing

-- What a call reads and the state after it.
pub record Step : Type 0 where
  pub read : Read
  pub next : State

abbrev pub advanced : ℕ → Outcome → Step
advanced p o = record { read = o.read; next = state (p + o.used) o.flags None }

-- The start token comes first and changes nothing but itself; then the text from the position on is read.
abbrev pub step : ParsingScope → State → List ℕ → Step
step scope s t = maybe s.pending
    (advanced s.position (run (drop s.position t) (read_token (is_name scope) s.flags)).answer)
    (λ k. record { read = start_read k; next = state s.position s.flags None })

-- All that a token call leaves. 01: place is the position after, of a refusal by the host the position that it was handed.
pub record Called : Type 0 where
  pub read : Read
  pub place : ℕ
  pub next : State
  pub output : List ℕ
  pub scratch : List ℕ

module _ (lent : Lent) (s : State) (t output scratch : List ℕ) where
  abbrev pub called : Step → Called
  called a = record { read = a.read; place = a.next.position; next = a.next; output = front (cells_of a.read) output; scratch = zeros (length scratch) }

  -- 01: refused by the host, the state is unchanged.
  abbrev pub refuse : ℕ → Called
  refuse n = called (record { read = refused n 0; next = s })

  -- 01: a token call checks 1, 12, 10, 9, then the text; output as long as the text, scratch twice that.
  abbrev pub next_token : Called
  next_token =
      cond (ltb max_chars (length t)) (refuse too_long)
      (cond (ltb (length t) s.position) (refuse beyond_text)
      (cond (is_broken lent) (refuse broken_scope)
      (cond (ltb (length output) (length t) || ltb (length scratch) (2 * length t)) (refuse short_slice)
      (called (step (scope_of lent) s t)))))
