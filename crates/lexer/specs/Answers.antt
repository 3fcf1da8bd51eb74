-- What the code of the readers answers, in the terms of the readings.
use Rattle.std.specs.Prelude.{List, ℕ, ◌+◌, ◌≤◌, ◌<◌, length, Option, None, Some}
use Rattle.reading.specs.Goes.{Reads}
use Rattle.lexer.specs.Skip.{block_end, comment}
use Rattle.lexer.specs.Token.{fuel}

-- The inside of a block comment from i on ends before r.
pub record BlockEnds (t : List ℕ) (i r : ℕ) : Type 0 where
  pub from : i ≤ r
  pub within : r ≤ length t
  pub reads : Reads t (block_end fuel i) r (r + 1)

-- A comment at i ends behind i and has been looked at to its end; or there is none.
abbrev pub Behind : List ℕ → ℕ → Option ℕ → Type 0
Behind t i None = Unit
Behind t i (Some j) = (i < j) × (j ≤ length t)

abbrev pub looked_at : ℕ → Option ℕ → ℕ
looked_at i None = i + 2
looked_at i (Some j) = j + 2

pub record Commented (t : List ℕ) (i : ℕ) (r : Option ℕ) : Type 0 where
  pub reads : Reads t (comment fuel i) r (looked_at i r)
  pub behind : Behind t i r
