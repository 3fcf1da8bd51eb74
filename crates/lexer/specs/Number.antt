-- Numbers. 01: a number may end in an exponent letter, or letter and sign, without digits.
use Rattle.std.specs.Prelude.{Bool, true, false, cond, ◌||◌, List, [], ◌∷◌, ℕ, ◌+◌}
use Rattle.reading.specs.Look.{Look, done, ◌>>=◌, look}
use Rattle.reading.specs.Cells.{holds, is}
use Rattle.reading.specs.Span.{gather}
use Rattle.text.specs.Classes.{is_digit}
use Rattle.lexer.specs.Read.{Read, token, number}
use Rattle.lexer.specs.TokenType

-- A number that begins with its point has a 0 before it.
abbrev pub or_zero : List ℕ → List ℕ
or_zero [] = 0x30 ∷ []
or_zero (x ∷ xs) = x ∷ xs

abbrev pub numeric : List ℕ → List ℕ → Bool → List ℕ → Read
numeric before after minus exponent = token TokenType.Numeric (number (or_zero before) after minus exponent)

-- A sign, and whether it is a minus.
abbrev pub read_sign : ℕ → Look (Bool × ℕ)
read_sign i = do
  c ← look i
  cond (is 0x2B c) (done (false, i + 1)) (cond (is 0x2D c) (done (true, i + 1)) (done (false, i)))

module _ (fuel : ℕ) where
  -- The rest of a number, at the place where an exponent may stand.
  abbrev pub read_exponent : List ℕ → List ℕ → ℕ → Look (Read × ℕ)
  read_exponent before after i = do
    c ← look i
    cond (is 0x65 c || is 0x45 c)
        (do
          s ← read_sign (i + 1)
          e ← gather is_digit fuel s.1
          done (numeric before after s.0 e.0, e.1))
        (done (numeric before after false [], i))

  -- The point is taken only before a digit.
  abbrev pub read_number : ℕ → Look (Read × ℕ)
  read_number i = do
    b ← gather is_digit fuel i
    c ← look b.1
    cond (is 0x2E c)
        (do
          d ← look (b.1 + 1)
          cond (holds is_digit d)
              (do
                a ← gather is_digit fuel (b.1 + 1)
                read_exponent b.0 a.0 a.1)
              (done (numeric b.0 [] false [], b.1)))
        (read_exponent b.0 [] b.1)
