-- The character classes of the DMN grammar, Unicode's White_Space and scalar values.
use Rattle.std.specs.Prelude.{Bool, List, [], ◌∷◌, ◌++◌, ℕ}
use Rattle.reading.specs.Codes.{codes}
use Rattle.reading.specs.Cells.{is_one_of}
use Rattle.text.specs.Ranges.{to, only, among}

abbrev pub vertical_spaces : List (List ℕ)
vertical_spaces = to 0x0A 0x0D ∷ []

abbrev pub whitespaces : List (List ℕ)
whitespaces =
    vertical_spaces
    ++ (only 0x09 ∷ only 0x20 ∷ only 0x85 ∷ only 0xA0 ∷ only 0x1680 ∷ only 0x180E ∷ to 0x2000 0x200B ∷ only 0x2028 ∷ only 0x2029 ∷ only 0x202F ∷ only 0x205F ∷ only 0x3000 ∷ only 0xFEFF ∷ [])

abbrev pub digits : List (List ℕ)
digits = to 0x30 0x39 ∷ []

abbrev pub name_starts : List (List ℕ)
name_starts =
    only 0x3F ∷ to 0x41 0x5A ∷ only 0x5F ∷ to 0x61 0x7A ∷ to 0xC0 0xD6 ∷ to 0xD8 0xF6 ∷ to 0xF8 0x2FF ∷ to 0x370 0x37D ∷ to 0x37F 0x1FFF ∷ to 0x200C 0x200D ∷ to 0x2070 0x218F ∷ to 0x2C00 0x2FEF ∷ to 0x3001 0xD7FF ∷ to 0xF900 0xFDCF ∷ to 0xFDF0 0xFFFD ∷ to 0x10000 0xEFFFF ∷ []

abbrev pub name_parts : List (List ℕ)
name_parts = name_starts ++ digits ++ (only 0xB7 ∷ to 0x300 0x36F ∷ to 0x203F 0x2040 ∷ [])

-- Unicode's property White_Space: what trimming takes.
abbrev pub white_spaces : List (List ℕ)
white_spaces =
    to 0x09 0x0D ∷ only 0x20 ∷ only 0x85 ∷ only 0xA0 ∷ only 0x1680 ∷ to 0x2000 0x200A ∷ only 0x2028 ∷ only 0x2029 ∷ only 0x202F ∷ only 0x205F ∷ only 0x3000 ∷ []

-- Unicode's scalar values: every code point that is no surrogate.
abbrev pub scalars : List (List ℕ)
scalars = to 0x0 0xD7FF ∷ to 0xE000 0x10FFFF ∷ []

unfoldable pub is_vertical_space : ℕ → Bool
unfolding among
is_vertical_space c = among vertical_spaces c

unfoldable pub is_whitespace : ℕ → Bool
unfolding among
is_whitespace c = among whitespaces c

unfoldable pub is_digit : ℕ → Bool
unfolding among
is_digit c = among digits c

unfoldable pub is_name_start : ℕ → Bool
unfolding among
is_name_start c = among name_starts c

unfoldable pub is_name_part : ℕ → Bool
unfolding among
is_name_part c = among name_parts c

unfoldable pub is_white : ℕ → Bool
unfolding among
is_white c = among white_spaces c

unfoldable pub is_scalar : ℕ → Bool
unfolding among
is_scalar c = among scalars c

-- The additional name symbols.
unfoldable pub is_symbol : ℕ → Bool
is_symbol c = is_one_of (codes "./-'+*") c

-- What may stand right behind `true`, `false` and `null` (the Rust's `is_separator`).
unfoldable pub is_separator : ℕ → Bool
is_separator c = is_one_of (codes " =!<>+-*/%.,)[]}") c
