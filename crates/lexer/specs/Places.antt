-- The parts of a name by their places, as a function of the text.
use Rattle.std.specs.Prelude.{Bool, true, cond, List, [], ◌∷◌, map, ℕ, zero, suc, ◌+◌, ◌≤◌, ◌<◌, length, ◌≡◌, Result, Ok, Err}
use Rattle.reading.specs.Goes.{Sees}
use Rattle.reading.specs.Look.{cell_at}
use Rattle.reading.specs.Cells.{holds}
use Rattle.reading.specs.Span.{past, part}
use Rattle.text.specs.Classes.{is_whitespace, is_name_part, is_symbol}
use Rattle.names.specs.Trim.{trim}
use Rattle.names.specs.Spelling.{spelled}
use Rattle.lexer.specs.Parts as parts
use Rattle.lexer.specs.Parts.{Part, walk}
use Rattle.lexer.specs.Token.{fuel}
use Rattle.lexer.specs.Naming.{texts}

-- Where the part that starts at i starts and ends, or i itself, where the walk ends.
unfoldable pub here_of : List ℕ → ℕ → Result (ℕ × ℕ) ℕ
here_of t i = cond (holds is_name_part (cell_at t i)) (Ok (i, past is_name_part t i)) (cond (holds is_symbol (cell_at t i)) (Ok (i, i + 1)) (Err i))

-- Where the next part must start, if there is one.
unfoldable pub start_of : List ℕ → ℕ → ℕ
start_of t i = cond (holds is_name_part (cell_at t i)) i (cond (holds is_symbol (cell_at t i)) i (past is_whitespace t i))

abbrev pub next_of : List ℕ → ℕ → Result (ℕ × ℕ) ℕ
next_of t i = here_of t (start_of t i)

abbrev pub end_of : Result (ℕ × ℕ) ℕ → ℕ
end_of (Ok p) = p.1
end_of (Err e) = e

-- The part that stands from s up to, not including, e.
abbrev pub between : List ℕ → ℕ → ℕ → Part
between t s e = parts.part (part t s e) e

abbrev pub leads : List ℕ → Result (ℕ × ℕ) ℕ → List Part → List Part
leads t (Ok p) ps = between t p.0 p.1 ∷ ps
leads t (Err e) ps = []

-- It lies between i and the end.
abbrev pub Placed : List ℕ → ℕ → Result (ℕ × ℕ) ℕ → Type 0
Placed t i (Ok p) = (i ≤ p.0) × (p.0 < p.1) × (p.1 ≤ length t)
Placed t i (Err e) = (i ≤ e) × (e ≤ length t)

-- The first n parts from i on, or all if they are fewer.
unfoldable pub prefix : List ℕ → ℕ → ℕ → List Part
prefix t zero i = []
prefix t (suc n) i = leads t (next_of t i) (prefix t n (end_of (next_of t i)))

-- Parts as `Name::new` joins them, or joined by spaces, each trimmed.
abbrev pub spelling : Bool → List Part → List ℕ
spelling new ps = spelled new true (map trim (texts ps))

-- The name that begins at `from` has so many parts, and the walk over them ends at `end`, which it has looked at.
pub record Counted (t : List ℕ) (from parts end : ℕ) : Type 0 where
  pub on : from + parts ≤ end
  pub within : end ≤ length t
  pub count : length (prefix t parts from) ≡ parts
  pub sees : Sees {A = List Part × ℕ} t (walk fuel fuel from) (prefix t parts from, end) (end + 1)
