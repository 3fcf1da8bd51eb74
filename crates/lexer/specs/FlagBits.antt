-- Flags as one number.
use Rattle.std.specs.Prelude.{Bool, cond, ℕ, ◌+◌, ◌*◌, ◌/◌, ◌%◌, eqb}
use Rattle.lexer.specs.Flags.{Flags}

abbrev pub bit : Bool → ℕ
bit b = cond b 1 0

abbrev pub flag_bits : Flags → ℕ
flag_bits f = bit f.unary_tests + 2 * bit f.between + 4 * bit f.type_name + 8 * bit f.till_in + 16 * bit f.after_dot

abbrev pub has_bit : ℕ → ℕ → Bool
has_bit k n = eqb (n / k % 2) 1

abbrev pub bit_flags : ℕ → Flags
bit_flags n = record { unary_tests = has_bit 1 n; between = has_bit 2 n; type_name = has_bit 4 n; till_in = has_bit 8 n; after_dot = has_bit 16 n }
