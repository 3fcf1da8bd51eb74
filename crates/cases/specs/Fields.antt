-- The fields of a line, parted by single spaces: decimal numbers, and texts as code points in hexadecimal.
use Rattle.std.specs.Prelude.{Bool, cond, List, [], ◌∷◌, ◌++◌, ℕ, zero, suc, ◌+◌, ◌*◌, ◌%◌, eqb, ltb, length, drop, replicate}
use Rattle.std.specs.Option.{unwrap_or}
use Rattle.reading.specs.Look.{cell_at}
use Rattle.reading.specs.Cells.{is}
use Rattle.reading.specs.Span.{span}
use Rattle.text.specs.Hex.{hex_value}

-- How many bytes there are up to the next field: the first space and what stands before it, or all that is left.
unfoldable pub to_next : List ℕ → ℕ
to_next [] = 0
to_next (c ∷ cs) = cond (eqb c 0x20) 1 (suc (to_next cs))

-- Where the field behind the next space begins, or where the line ends.
abbrev pub next_field : List ℕ → ℕ → ℕ
next_field line i = i + to_next (drop i line)

-- The value of a digit; 16 for any other byte.
abbrev pub digit_value : ℕ → ℕ
digit_value c = unwrap_or (hex_value c) 16

abbrev pub is_digit : ℕ → ℕ → Bool
is_digit base c = ltb (digit_value c) base

-- Numbers of a case stay below this: it is more than the last code point, and no case counts so far.
abbrev pub number_limit : ℕ
number_limit = 0x100_0000

-- A digit behind others; a number that has grown too large is cut, so that no number wraps.
abbrev pub with_digit : ℕ → ℕ → ℕ → ℕ
with_digit base n d = n % number_limit * base + d

-- The number n with the digits that the text begins with behind it.
unfoldable pub with_digits : ℕ → ℕ → List ℕ → ℕ
with_digits base n [] = n
with_digits base n (c ∷ cs) = cond (is_digit base c) (with_digits base (with_digit base n (digit_value c)) cs) n

-- The number whose digits begin at i, and the place behind them.
abbrev pub number_at : ℕ → List ℕ → ℕ → ℕ
number_at base line i = with_digits base 0 (drop i line)

abbrev pub digits_end : ℕ → List ℕ → ℕ → ℕ
digits_end base line i = i + span (is_digit base) (drop i line)

-- A decimal number that is a field of its own, and where the next field begins.
abbrev pub decimal_at : List ℕ → ℕ → ℕ
decimal_at line i = number_at 10 line i

abbrev pub decimal_end : List ℕ → ℕ → ℕ
decimal_end line i = next_field line (digits_end 10 line i)

-- How often a code point stands there: as often as the number behind a star says, or once; and the place behind that.
abbrev pub times_at : List ℕ → ℕ → ℕ
times_at line i = cond (is 0x2a (cell_at line i)) (number_at 16 line (i + 1)) 1

abbrev pub times_end : List ℕ → ℕ → ℕ
times_end line i = cond (is 0x2a (cell_at line i)) (digits_end 16 line (i + 1)) i

-- A code point as often as it stands there, and the place behind it.
unfoldable pub code_point : List ℕ → ℕ → List ℕ
code_point line i = replicate (times_at line (digits_end 16 line i)) (number_at 16 line i)

unfoldable pub code_point_end : List ℕ → ℕ → ℕ
code_point_end line i = times_end line (digits_end 16 line i)

-- A comma leads on to the next code point.
abbrev pub goes_on : List ℕ → ℕ → Bool
goes_on line i = is 0x2c (cell_at line (code_point_end line i))

-- At most so many code points from i on, joined by commas, none of them behind the end; and the place behind them.
unfoldable pub code_points : ℕ → List ℕ → ℕ → List ℕ
code_points zero line i = []
code_points (suc f) line i = cond (ltb i (length line)) (code_point line i ++ cond (goes_on line i) (code_points f line (code_point_end line i + 1)) []) []

unfoldable pub code_points_end : ℕ → List ℕ → ℕ → ℕ
code_points_end zero line i = i
code_points_end (suc f) line i = cond (ltb i (length line)) (cond (goes_on line i) (code_points_end f line (code_point_end line i + 1)) (code_point_end line i)) i

-- The cells of a text, `-` or code points, and where the next field begins. A line has no more commas than bytes, so its length is enough.
unfoldable pub cells_at : List ℕ → ℕ → List ℕ
cells_at line i = cond (is 0x2d (cell_at line i)) [] (code_points (length line) line i)

unfoldable pub cells_end : List ℕ → ℕ → ℕ
cells_end line i = next_field line (cond (is 0x2d (cell_at line i)) i (code_points_end (length line) line i))
