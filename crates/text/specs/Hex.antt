-- Hexadecimal digits.
use Rattle.std.specs.Prelude.{cond, ℕ, ◌-◌, Option, None, Some}
use Rattle.text.specs.Ranges.{to, within}

abbrev pub hex_value : ℕ → Option ℕ
hex_value c =
    cond (within (to 0x30 0x39) c) (Some (c - 0x30))
    (cond (within (to 0x41 0x46) c) (Some (c - 0x37))
    (cond (within (to 0x61 0x66) c) (Some (c - 0x57)) None))
