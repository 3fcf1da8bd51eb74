-- What the code of opening answers, in the terms of the definitions.
use Rattle.std.specs.Prelude.{cond, List, ℕ, ◌≤◌, eqb, length, Result, Ok, Err}
use Rattle.reading.specs.Slices.{front}
use Rattle.text.specs.RefusalNumber.{number_of}
use Rattle.text.specs.Utf8.{Decoded, chars, bad_at, Opened, opened, refused}
use Rattle.text.specs.declared.utf8.Text.{Text}
use Rattle.text.specs.declared.utf8.Refused.{Refused}

-- The bounds of the second byte behind a first byte of C2 to F4.
abbrev pub second_low : ℕ → ℕ
second_low b = cond (eqb b 0xE0) 0xA0 (cond (eqb b 0xF0) 0x90 0x80)

abbrev pub second_high : ℕ → ℕ
second_high b = cond (eqb b 0xED) 0x9F (cond (eqb b 0xF4) 0x8F 0xBF)

-- The number of characters, or the place of the first bad sequence.
abbrev pub count_of : Decoded → Result ℕ ℕ
count_of (chars cs) = Ok (length cs)
count_of (bad_at p) = Err p

-- The bytes are well-formed, and a slice of n cells has room for their characters.
abbrev pub HasRoom : Decoded → ℕ → Type 0
HasRoom (chars cs) n = length cs ≤ n
HasRoom (bad_at p) n = ⊥

abbrev pub written_of : Decoded → List ℕ → List ℕ
written_of (chars cs) out = front cs out
written_of (bad_at p) out = out

-- What code answers: a text's length, or the number of a refusal and its place.
abbrev pub answered : Result Text Refused → Result ℕ (ℕ × ℕ)
answered (Ok t) = Ok t.chars
answered (Err r) = Err (number_of r.refusal, r.place)

-- 01's answer in the same terms.
abbrev pub opening_of : Opened → Result ℕ (ℕ × ℕ)
opening_of (opened cs) = Ok (length cs)
opening_of (refused n p) = Err (n, p)
