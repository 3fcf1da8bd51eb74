-- What a token call gives: a token with its value, or a refusal with what it carries.
use Rattle.std.specs.Prelude.{Bool, true, false, ◌||◌, not, List, [], ◌∷◌, ◌++◌, ℕ, eqb}
use Rattle.reading.specs.Cells.{is_one_of}
use Rattle.lexer.specs.Flags.{Flags}
use Rattle.lexer.specs.TokenType

-- A number has its digits before and after the point, whether its exponent's sign is a minus, and the exponent's digits;
-- strings and names have their characters.
pub data Value : Type 0 where
  nothing : Value
  truth : Bool → Value
  number : List ℕ → List ℕ → Bool → List ℕ → Value
  chars : List ℕ → Value

-- A token's type and value, or a refusal's number and carry (0 where 01 gives it none).
pub data Read : Type 0 where
  token : ℕ → Value → Read
  refused : ℕ → ℕ → Read

-- What was read, how many cells were used up, skipped ones included, and the flags after.
pub record Outcome : Type 0 where
  pub read : Read
  pub used : ℕ
  pub flags : Flags

abbrev pub outcome : Read → ℕ → Flags → Outcome
outcome r u f = record { read = r; used = u; flags = f }

-- The cells of a value as they are written. 01: a number's are its digits before, after and of the exponent, in that order.
abbrev pub value_cells : Value → List ℕ
value_cells nothing = []
value_cells (truth b) = []
value_cells (number before after minus exponent) = before ++ after ++ exponent
value_cells (chars cs) = cs

abbrev pub cells_of : Read → List ℕ
cells_of (token k v) = value_cells v
cells_of (refused n c) = []

-- Strings and names.
abbrev pub text_types : List ℕ
text_types = TokenType.String ∷ TokenType.Name ∷ TokenType.NameDateTime ∷ TokenType.BuiltInTypeName ∷ []

-- 01's number of what was read: the token type or the refusal.
abbrev pub is_refused : Read → Bool
is_refused (token k v) = false
is_refused (refused n c) = true

abbrev pub number_of : Read → ℕ
number_of (token k v) = k
number_of (refused n c) = n

-- 01: YyEof, YyUndef, YyError and refusals end a run.
abbrev pub is_last : Bool → ℕ → Bool
is_last is_refusal n = is_refusal || is_one_of (TokenType.YyEof ∷ TokenType.YyUndef ∷ TokenType.YyError ∷ []) n

abbrev pub ends : Read → Bool
ends r = is_last (is_refused r) (number_of r)

-- 01: a Boolean stands with the type Boolean, a number with Numeric, and no other token has a value but strings and names.
abbrev pub has_form : Read → Bool
has_form (token k (truth b)) = eqb TokenType.Boolean k
has_form (token k (number before after minus exponent)) = eqb TokenType.Numeric k
has_form (token k (chars cs)) = is_one_of text_types k
has_form (token k nothing) = not (is_one_of (TokenType.Boolean ∷ TokenType.Numeric ∷ text_types) k)
has_form (refused n c) = true
