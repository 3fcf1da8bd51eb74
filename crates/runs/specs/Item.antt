-- An item of a run. 01: it holds type or refusal, value, position and flags after, and reach.
use Rattle.std.specs.Prelude.{Bool, List, ℕ, length}
use Rattle.lexer.specs.Flags.{Flags}
pub use Rattle.lexer.specs.FlagBits.{bit}
use Rattle.lexer.specs.Read.{Read, token, refused, nothing, truth, number, chars, is_refused, number_of, cells_of, is_last}

-- The three lengths of a number: its digits before and after the point and of the exponent.
pub record Lengths : Type 0 where
  pub before : ℕ
  pub after : ℕ
  pub exponent : ℕ

-- 01: a Boolean, a number's sign and three lengths, and a refusal's carry stand beside the value's cells.
pub record Item : Type 0 where
  pub is_refusal : Bool
  pub number : ℕ
  pub position : ℕ
  pub flags : Flags
  pub reach : ℕ
  pub value : List ℕ
  pub lengths : Lengths
  pub extra : ℕ

abbrev pub lengths_of : Read → Lengths
lengths_of (token k nothing) = record { before = 0; after = 0; exponent = 0 }
lengths_of (token k (truth b)) = record { before = 0; after = 0; exponent = 0 }
lengths_of (token k (number before after minus exponent)) = record { before = length before; after = length after; exponent = length exponent }
lengths_of (token k (chars cs)) = record { before = 0; after = 0; exponent = 0 }
lengths_of (refused n c) = record { before = 0; after = 0; exponent = 0 }

-- 1 for true, 1 for a minus, or the carry.
abbrev pub extra_of : Read → ℕ
extra_of (token k nothing) = 0
extra_of (token k (truth b)) = bit b
extra_of (token k (number before after minus exponent)) = bit minus
extra_of (token k (chars cs)) = 0
extra_of (refused n c) = c

abbrev pub item : Read → ℕ → Flags → ℕ → Item
item r p f q = record { is_refusal = is_refused r; number = number_of r; position = p; flags = f; reach = q; value = cells_of r; lengths = lengths_of r; extra = extra_of r }

abbrev pub ends_run : Item → Bool
ends_run i = is_last i.is_refusal i.number
