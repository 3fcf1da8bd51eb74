-- What the cutting of a name finds out about its parts.
use Rattle.std.specs.Prelude.{◌≡◌, Bool, true, cond, List, ℕ, ◌≤◌, ◌<◌, length, Option, None, Some}
use Rattle.reading.specs.Look.{cell_at}
use Rattle.lexer.specs.Naming.{before_in, is_found, longest, by_prefix, by_in}
use Rattle.lexer.specs.Flags.{Flags}
use Rattle.lexer.specs.Read.{Outcome}
use Rattle.lexer.specs.Parts.{Part}
use Rattle.lexer.specs.Places.{prefix, spelling}

-- Of the first n parts from `from` on, so many stand before the first that is `in`, if one is.
abbrev pub Before : List ℕ → ℕ → ℕ → Option ℕ → Type 0
Before t from n None = before_in (prefix t n from) ≡ None
Before t from n (Some m) = (m < n) × (before_in (prefix t n from) ≡ Some (prefix t m from))

-- The value of each prefix of at most n parts has room in k cells.
pub record Roomy (t : List ℕ) (from n k : ℕ) : Type 0 where
  pub so : (m : ℕ) → m ≤ n → length (spelling true (prefix t m from)) ≤ k

-- The decisions on the name that begins at `from`, of n parts, behind which the walk ended at `end`.
module _ (f : Flags) (is_name : List ℕ → Bool) (t : List ℕ) (from n end : ℕ) where
  abbrev pub by_prefix_of : Outcome
  by_prefix_of = by_prefix f is_name from (prefix t n from) (cell_at t end) end (longest (is_found f is_name) (prefix t n from) (length (prefix t n from)))

  abbrev pub by_in_of : Option (List Part) → Outcome
  by_in_of o = by_in f is_name from (prefix t n from) (cell_at t end) end o

  abbrev pub cut_in_of : Outcome
  cut_in_of = by_in_of (cond f.till_in (before_in (prefix t n from)) None)
