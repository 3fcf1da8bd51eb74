-- Opening bytes: well-formed UTF-8 as the Unicode Standard's table 3-7 has it, decoded to one cell a character.
use Rattle.std.specs.Prelude.{Bool, true, false, cond, ◌&&◌, ◌||◌, List, [], ◌∷◌, ℕ, zero, suc, ◌+◌, ◌-◌, ◌*◌, ◌%◌, ◌^◌, leb, ltb, eqb, length, take, Option, None, Some}
use Rattle.reading.specs.Cells.{maybe}
use Rattle.reading.specs.Slices.{front}
use Rattle.text.specs.Limits.{max_chars, max_bytes}
use Rattle.text.specs.Refusals.{too_long, not_utf8, short_slice}
use Rattle.text.specs.Ranges.{to, within}

-- Of the n highest bits of a byte, how many ones stand before the first zero.
abbrev pub ones_of : ℕ → ℕ → ℕ
ones_of zero b = 0
ones_of (suc n) b = cond (leb 0x80 b) (suc (ones_of n (2 * b % 0x100))) 0

-- 01: the length of a sequence is told by the count of leading one bits in its first byte, 0 for a single byte.
unfoldable pub leading_ones : ℕ → ℕ
leading_ones b = ones_of 8 b

abbrev pub sequence_length : ℕ → ℕ
sequence_length b = cond (eqb (leading_ones b) 0) 1 (leading_ones b)

-- The table: a row for each form of a sequence, a range for each of its bytes.
abbrev pub continuing : List ℕ
continuing = to 0x80 0xBF

unfoldable pub well_formed_rows : List (List (List ℕ))
well_formed_rows =
    (to 0x00 0x7F ∷ [])
    ∷ (to 0xC2 0xDF ∷ continuing ∷ [])
    ∷ (to 0xE0 0xE0 ∷ to 0xA0 0xBF ∷ continuing ∷ [])
    ∷ (to 0xE1 0xEC ∷ continuing ∷ continuing ∷ [])
    ∷ (to 0xED 0xED ∷ to 0x80 0x9F ∷ continuing ∷ [])
    ∷ (to 0xEE 0xEF ∷ continuing ∷ continuing ∷ [])
    ∷ (to 0xF0 0xF0 ∷ to 0x90 0xBF ∷ continuing ∷ continuing ∷ [])
    ∷ (to 0xF1 0xF3 ∷ continuing ∷ continuing ∷ continuing ∷ [])
    ∷ (to 0xF4 0xF4 ∷ to 0x80 0x8F ∷ continuing ∷ continuing ∷ [])
    ∷ []

-- Each byte lies in its range, and there are as many as ranges.
unfoldable pub fits_row : List (List ℕ) → List ℕ → Bool
fits_row [] [] = true
fits_row [] (b ∷ bs) = false
fits_row (r ∷ rs) [] = false
fits_row (r ∷ rs) (b ∷ bs) = within r b && fits_row rs bs

unfoldable pub fits_some : List (List (List ℕ)) → List ℕ → Bool
fits_some [] bs = false
fits_some (r ∷ rs) bs = fits_row r bs || fits_some rs bs

abbrev pub is_well_formed : List ℕ → Bool
is_well_formed bs = fits_some well_formed_rows bs

-- The bits of the first byte behind its leading ones and a zero, then six of each further byte.
unfoldable pub append_bits : ℕ → List ℕ → ℕ
append_bits v [] = v
append_bits v (b ∷ bs) = append_bits (v * 0x40 + b % 0x40) bs

abbrev pub decode : ℕ → List ℕ → ℕ
decode b bs = append_bits (b % 2 ^ (7 - leading_ones b)) bs

-- The character that the bytes begin with, and the length of its sequence.
unfoldable pub sequence : List ℕ → Option (ℕ × ℕ)
sequence [] = None
sequence (b ∷ bs) = cond (is_well_formed (take (sequence_length b) (b ∷ bs))) (Some (decode b (take (sequence_length b - 1) bs), sequence_length b)) None

pub data Decoded : Type 0 where
  chars : List ℕ → Decoded
  bad_at : ℕ → Decoded

abbrev pub with_char : ℕ → Decoded → Decoded
with_char c (chars cs) = chars (c ∷ cs)
with_char c (bad_at p) = bad_at p

abbrev pub with_chars : List ℕ → Decoded → Decoded
with_chars [] d = d
with_chars (c ∷ cs) d = with_char c (with_chars cs d)

-- The characters of the bytes from place p on, of which the first so many belong to a sequence already decoded.
-- 01: the place of a refusal 2 is the byte where the first bad sequence begins.
unfoldable pub decoded_from : ℕ → ℕ → List ℕ → Decoded
decoded_from skip p [] = chars []
decoded_from (suc skip) p (b ∷ bs) = decoded_from skip (suc p) bs
decoded_from zero p (b ∷ bs) = maybe (sequence (b ∷ bs)) (bad_at p) (λ s. with_char s.0 (decoded_from (s.1 - 1) (suc p) bs))

abbrev pub decoded : List ℕ → Decoded
decoded bs = decoded_from 0 0 bs

-- What opening answers: the text, or the number and the place of a refusal.
pub data Opened : Type 0 where
  opened : List ℕ → Opened
  refused : ℕ → ℕ → Opened

abbrev pub opening : ℕ → Decoded → Opened
opening room (bad_at p) = refused not_utf8 p
opening room (chars cs) =
    cond (ltb max_chars (length cs)) (refused too_long 0)
    (cond (ltb room (length cs)) (refused short_slice 0) (opened cs))

-- 01: opening checks over 65,536 bytes (1), then 2, 1, 9; the output has room for so many cells.
abbrev pub open_bytes : List ℕ → ℕ → Opened
open_bytes bytes room = cond (ltb max_bytes (length bytes)) (refused too_long 0) (opening room (decoded bytes))

-- The output after: its front holds the text, or it is as it was.
abbrev pub opened_output : Opened → List ℕ → List ℕ
opened_output (opened cs) out = front cs out
opened_output (refused n p) out = out
