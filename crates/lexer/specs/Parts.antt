-- The walk over the parts of a name. 01: words and single symbols are parts, whitespace may part them.
use Rattle.std.specs.Prelude.{cond, List, [], ◌∷◌, ℕ, zero, suc, ◌+◌}
use Rattle.reading.specs.Look.{Look, done, ask, ◌>>=◌}
use Rattle.reading.specs.Cells.{maybe}
use Rattle.reading.specs.Span.{gather}
use Rattle.text.specs.Classes.{is_whitespace, is_name_part, is_symbol}

-- A part and the place just behind it.
pub record Part : Type 0 where
  pub cells : List ℕ
  pub end : ℕ

abbrev pub part : List ℕ → ℕ → Part
part w j = record { cells = w; end = j }

-- 01: U+1680, U+180E and U+FEFF, in both classes, are word characters inside a word or right after a symbol, and whitespace after other whitespace:
-- a word is tried first, and whitespace is taken as a run.
module _ (fuel : ℕ) where
  unfoldable pub walk : ℕ → ℕ → Look (List Part × ℕ)
  walk zero i = done ([], i)
  walk (suc f) i =
      ask i (λ c. maybe c (done ([], i)) (λ x. cond (is_name_part x)
      (do
        w ← gather is_name_part fuel i
        r ← walk f w.1
        done (part w.0 w.1 ∷ r.0, r.1))
      (cond (is_symbol x)
      (do
        r ← walk f (i + 1)
        done (part (x ∷ []) (i + 1) ∷ r.0, r.1))
      (cond (is_whitespace x)
      (do
        s ← gather is_whitespace fuel i
        walk f s.1)
      (done ([], i))))))
