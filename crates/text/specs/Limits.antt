-- The limits of a text.
use Rattle.std.specs.Prelude.{ℕ}

-- 01: over 16,384 characters is refusal 1, and so is opening over 65,536 bytes.
abbrev pub max_chars : ℕ
max_chars = 16_384

abbrev pub max_bytes : ℕ
max_bytes = 65_536
