-- Skipping whitespace and comments. Loops take at most fuel turns (`any_fuel`, proofs/TokenFacts: any fuel above the text's length reads the same).
use Rattle.std.specs.Prelude.{Bool, cond, ◌&&◌, not, ℕ, zero, suc, ◌+◌, eqb, Option, None, Some}
use Rattle.reading.specs.Look.{Look, done, ask, ◌>>=◌, look}
use Rattle.reading.specs.Cells.{maybe, is}
use Rattle.reading.specs.Span.{gather}
use Rattle.text.specs.Classes.{is_whitespace}

-- 01: `//` runs to U+000A.
unfoldable pub is_in_line : ℕ → Bool
is_in_line x = not (eqb x 0x0A)

-- 01: `/*` runs to the next `*/` after both characters. The place behind it, from i on, or the end.
unfoldable pub block_end : ℕ → ℕ → Look ℕ
block_end zero i = done i
block_end (suc f) i =
    ask i (λ c. maybe c (done i) (λ x. cond (eqb 0x2A x)
    (ask (i + 1) (λ d. cond (is 0x2F d) (done (i + 2)) (block_end f (i + 1))))
    (block_end f (i + 1))))

module _ (fuel : ℕ) where
  abbrev pub blanks : ℕ → Look ℕ
  blanks i = do
    r ← gather is_whitespace fuel i
    done r.1

  -- The end of the comment at i, or none if there is none.
  abbrev pub comment : ℕ → Look (Option ℕ)
  comment i = do
    a ← look i
    b ← look (i + 1)
    cond (is 0x2F a && is 0x2F b)
        (do
          r ← gather is_in_line fuel (i + 2)
          done (Some r.1))
        (cond (is 0x2F a && is 0x2A b)
        (do
          j ← block_end fuel (i + 2)
          done (Some j))
        (done None))

  -- The first character that is neither whitespace nor in a comment, from i on.
  unfoldable pub skip_from : ℕ → ℕ → Look ℕ
  skip_from zero i = done i
  skip_from (suc f) i = do
    j ← blanks i
    c ← comment j
    maybe c (done j) (λ e. skip_from f e)

  abbrev pub skip : Look ℕ
  skip = skip_from fuel 0
