-- What the code of the token reader answers, in the terms of the definitions.
use Rattle.std.specs.Prelude.{◌≡◌, Bool, List, ℕ, length}
use Rattle.reading.specs.Look.{Look}
use Rattle.reading.specs.Goes.{Goes}
use Rattle.reading.specs.Slices.{front}
use Rattle.lexer.specs.Read as spec
use Rattle.lexer.specs.Read.{Read, token, refused, nothing, truth, number, chars, outcome, cells_of}
use Rattle.lexer.specs.Flags.{Flags}
use Rattle.lexer.specs.FlagsOf.{flags_of}
use Rattle.lexer.specs.Token.{read_token}
use Rattle.lexer.specs.Answered.{Told, plain, boolean, numeric, letters, broken, told}
use Rattle.lexer.specs.declared.token.Outcome.{Outcome}

-- A reading as the code answers it: of a value's cells their number.
abbrev pub coded : Read → Told
coded (token k nothing) = plain k
coded (token k (truth b)) = boolean b
coded (token k (number before after minus exponent)) = numeric (length before) (length after) minus (length exponent)
coded (token k (chars cs)) = letters k (length cs)
coded (refused n c) = broken n c

-- The code gave this outcome, with this reach, and wrote its value to the front of o.
pub record Gives (c : spec.Outcome) (reach : ℕ) (o : List ℕ) (r : Outcome) (o' : List ℕ) : Type 0 where
  pub read : told r.read ≡ coded c.read
  pub used : r.used ≡ c.used
  pub flags : flags_of r.flags ≡ c.flags
  pub looked : r.reach ≡ reach
  pub left : o' ≡ front (cells_of c.read) o

-- With q as the reach so far, the reading m of the text t was made, and its value written to the front of o.
pub record Takes (t : List ℕ) (q : ℕ) (m : Look spec.Outcome) (o : List ℕ) (r : Outcome) (o' : List ℕ) : Type 0 where
  pub read : Read
  pub sees : Goes t q m (outcome read r.used (flags_of r.flags)) r.reach
  pub shown : told r.read ≡ coded read
  pub left : o' ≡ front (cells_of read) o

-- The token that the text t begins with.
abbrev pub Taken : List ℕ → (List ℕ → Bool) → Flags → List ℕ → Outcome → List ℕ → Type 0
Taken t is_name f o r o' = Takes t 0 (read_token is_name f) o r o'
