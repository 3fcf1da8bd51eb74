-- The code's items, in the terms of the definitions.
use Rattle.std.specs.Prelude.{List, [], ◌∷◌, ℕ, ◌+◌, ◌≤◌, Result, Ok, Err}
use Rattle.text.specs.Limits.{max_chars}
use Rattle.lexer.specs.FlagsOf.{flags_of}
use Rattle.lexer.specs.Read.{is_refused, number_of}
use Rattle.lexer.specs.Answered.{Told, plain, boolean, numeric, letters, broken, told, read_of, cell_count}
use Rattle.lexer.specs.TokenType as type
use Rattle.lexer.specs.TypeNumber.{type_number}
use Rattle.lexer.specs.declared.token_type.TokenType.{TokenType}
use Rattle.lexer.specs.Flags.{Flags}
use Rattle.text.specs.RefusalNumber as text
use Rattle.text.specs.declared.refusal.Refusal.{Refusal}
use Rattle.runs.specs.declared.item.Item.{Item}
use Rattle.runs.specs.declared.item.Value.{Value}
use Rattle.runs.specs.Item.{Lengths, bit, extra_of}
use Rattle.runs.specs.Record.{flag_bits}

-- A number's three lengths, as the code answers them.
abbrev pub lengths_from : Told → Lengths
lengths_from (plain k) = record { before = 0; after = 0; exponent = 0 }
lengths_from (boolean b) = record { before = 0; after = 0; exponent = 0 }
lengths_from (numeric before after minus exponent) = record { before = before; after = after; exponent = exponent }
lengths_from (letters k n) = record { before = 0; after = 0; exponent = 0 }
lengths_from (broken n c) = record { before = 0; after = 0; exponent = 0 }

-- The type of a token, or the number of a refusal.
abbrev pub kind_from : Told → Result ℕ ℕ
kind_from (plain k) = Ok k
kind_from (boolean b) = Ok type.Boolean
kind_from (numeric before after minus exponent) = Ok type.Numeric
kind_from (letters k n) = Ok k
kind_from (broken n c) = Err n

-- The same of the code's types and refusals.
abbrev pub kind_numbers : Result TokenType Refusal → Result ℕ ℕ
kind_numbers (Ok k) = Ok (type_number k)
kind_numbers (Err r) = Err (text.number_of r)

-- The numbers of a value are those of the answer's case (`read_of`), whatever the output holds.
abbrev pub value_from : Told → Value
value_from a = record { length = cell_count a; before = (lengths_from a).before; after = (lengths_from a).after; exponent = (lengths_from a).exponent; extra = extra_of (read_of a []) }

-- Numbers of a text within the limits, which 32 bits hold.
pub record Small (c : Item) : Type 0 where
  pub position : c.position ≤ max_chars
  pub reach : c.reach ≤ max_chars + 12
  pub size : cell_count (told c.read) ≤ max_chars

-- The row of an answer that is told, with what stands behind it.
abbrev pub row_told : ℕ → Told → ℕ → Flags → ℕ → List ℕ
row_told start a position flags reach =
    let x = read_of a [] in
    bit (is_refused x) ∷ number_of x ∷ position ∷ flag_bits flags ∷ reach ∷ start ∷ cell_count a ∷ (lengths_from a).before ∷ (lengths_from a).after ∷ (lengths_from a).exponent ∷ extra_of x ∷ []

-- The item's row.
abbrev pub row_from : ℕ → Item → List ℕ
row_from start c = row_told start (told c.read) c.position (flags_of c.flags) c.reach
