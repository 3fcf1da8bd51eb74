-- The Unicode Standard's example of UTF-8 and one bad sequence of each kind, computed.
use mathlib.Core.Path.{◌≡◌, refl}
use mathlib.Core.List.{List, [], ◌∷◌, map}
use Prim.Native.Nat.{ℕ}
use Rattle.text.specs.Utf8.{leading_ones, well_formed_rows, fits_row, fits_some, append_bits, decoded_from, sequence, Opened, opened, refused, open_bytes, opened_output}

pub record Case : Type 0 where
  pub bytes : List ℕ
  pub answer : Opened

abbrev case : List ℕ → Opened → Case
case b a = record { bytes = b; answer = a }

-- All with room for four characters.
abbrev pub cases : List Case
cases =
    case (0x4D ∷ 0xD0 ∷ 0xB0 ∷ 0xE4 ∷ 0xBA ∷ 0x8C ∷ 0xF0 ∷ 0x90 ∷ 0x8C ∷ 0x82 ∷ []) (opened (0x4D ∷ 0x430 ∷ 0x4E8C ∷ 0x10302 ∷ []))
    ∷ case (0xEF ∷ 0xBB ∷ 0xBF ∷ 0x7F ∷ []) (opened (0xFEFF ∷ 0x7F ∷ []))
    ∷ case (0xF4 ∷ 0x8F ∷ 0xBF ∷ 0xBF ∷ 0xED ∷ 0x9F ∷ 0xBF ∷ []) (opened (0x10FFFF ∷ 0xD7FF ∷ []))
    ∷ case (0x41 ∷ 0xC0 ∷ 0xAF ∷ []) (refused 2 1)
    ∷ case (0xE0 ∷ 0x9F ∷ 0xBF ∷ []) (refused 2 0)
    ∷ case (0x41 ∷ 0x42 ∷ 0xED ∷ 0xA0 ∷ 0x80 ∷ []) (refused 2 2)
    ∷ case (0xF4 ∷ 0x90 ∷ 0x80 ∷ 0x80 ∷ []) (refused 2 0)
    ∷ case (0xC2 ∷ 0xA0 ∷ 0x80 ∷ []) (refused 2 2)
    ∷ case (0x41 ∷ 0xE2 ∷ 0x28 ∷ 0xA1 ∷ []) (refused 2 1)
    ∷ case (0x41 ∷ 0xF0 ∷ 0x90 ∷ 0x8C ∷ []) (refused 2 1)
    ∷ case (0xFF ∷ []) (refused 2 0)
    ∷ case (0x31 ∷ 0x32 ∷ 0x33 ∷ 0x34 ∷ 0x35 ∷ []) (refused 9 0)
    ∷ []

pub utf8_cases : map (λ c. open_bytes c.bytes 4) cases ≡ map (λ c. c.answer) cases
unfolding decoded_from sequence well_formed_rows fits_row fits_some leading_ones append_bits
utf8_cases = refl

-- The text fills the front of the output; a refusal leaves it as it was.
pub output-cases :
    (opened_output (open_bytes (0xC2 ∷ 0xA0 ∷ []) 3) (1 ∷ 2 ∷ 3 ∷ []) ≡ 0xA0 ∷ 2 ∷ 3 ∷ [])
    × (opened_output (open_bytes (0x41 ∷ 0xA0 ∷ []) 3) (1 ∷ 2 ∷ 3 ∷ []) ≡ 1 ∷ 2 ∷ 3 ∷ [])
unfolding decoded_from sequence well_formed_rows fits_row fits_some leading_ones append_bits
output-cases = (refl, refl)
