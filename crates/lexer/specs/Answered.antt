-- The cases of the code's answer in 01's numbers and values. The cells of a value stand at the front of the output.
use Rattle.std.specs.Prelude.{◌≡◌, Bool, List, ℕ, ◌+◌, length, take, drop, Result, Ok, Err}
use Rattle.text.specs.RefusalNumber as text
use Rattle.lexer.specs.Read.{Read, token, refused, nothing, truth, number, chars, cells_of}
use Rattle.lexer.specs.TokenType
use Rattle.lexer.specs.TypeNumber.{type_number}
use Rattle.lexer.specs.declared.token.Token.{Token}
use Rattle.lexer.specs.declared.token.Token.TheVariants.{Plain, Boolean, Numeric, Chars}
use Rattle.lexer.specs.declared.token.Refused.{Refused}

-- An answer by numbers: of a token's type and of a refusal its own, of a value's cells how many they are.
pub data Told : Type 0 where
  plain : ℕ → Told
  boolean : Bool → Told
  numeric : ℕ → ℕ → Bool → ℕ → Told
  letters : ℕ → ℕ → Told
  broken : ℕ → ℕ → Told

abbrev pub told : Result Token Refused → Told
told (Ok (Plain k)) = plain (type_number k)
told (Ok (Boolean b)) = boolean b
told (Ok (Numeric before after minus exponent)) = numeric before after minus exponent
told (Ok (Chars k n)) = letters (type_number k) n
told (Err r) = broken (text.number_of r.refusal) r.carry

-- 01's number and value of each case: a token's type and value, a refusal's number and carry.
abbrev pub read_of : Told → List ℕ → Read
read_of (plain k) output = token k nothing
read_of (boolean b) output = token TokenType.Boolean (truth b)
read_of (numeric before after minus exponent) output =
    token TokenType.Numeric (number (take before output) (take after (drop before output)) minus (take exponent (drop (before + after) output)))
read_of (letters k n) output = token k (chars (take n output))
read_of (broken n c) output = refused n c

-- How many cells a value has.
abbrev pub cell_count : Told → ℕ
cell_count (plain k) = 0
cell_count (boolean b) = 0
cell_count (numeric before after minus exponent) = before + after + exponent
cell_count (letters k n) = n
cell_count (broken n c) = 0

-- The answer a, with its value at the front of the output, says that x was read, cell for cell.
pub record Says (a : Told) (output : List ℕ) (x : Read) : Type 0 where
  pub means : read_of a output ≡ x
  pub size : cell_count a ≡ length (cells_of x)
