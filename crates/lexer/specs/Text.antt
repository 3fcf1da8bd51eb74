-- String literals, with DMN's escapes.
use Rattle.std.specs.Prelude.{Bool, cond, ◌||◌, List, [], ◌∷◌, ◌++◌, ℕ, zero, suc, ◌+◌, ◌-◌, ◌*◌, ltb, eqb, Option, None, Some}
use Rattle.reading.specs.Look.{Look, done, ask, ◌>>=◌, look}
use Rattle.reading.specs.Cells.{maybe}
use Rattle.text.specs.Ranges.{to, within}
use Rattle.text.specs.Classes.{is_vertical_space}
use Rattle.text.specs.Hex.{hex_value}
use Rattle.text.specs.Refusals.{no_hex_digit, end_at_hex_digit, no_scalar_value, no_second_half, end_at_second_half}
use Rattle.lexer.specs.Read.{Read, token, refused, nothing, chars}
use Rattle.lexer.specs.TokenType

-- One character of the string and the place behind it, or what ends the reading and where.
pub data Piece : Type 0 where
  char : ℕ → ℕ → Piece
  stop : Read → ℕ → Piece

abbrev pub on_piece : {A : Type 0} → Piece → (ℕ → ℕ → A) → (Read → ℕ → A) → A
on_piece (char c j) f g = f c j
on_piece (stop r j) f g = g r j

-- The value of hexadecimal digits, or the refusal where one was due: its number, its carry, its place.
pub data Hex : Type 0 where
  value : ℕ → Hex
  no_digit : ℕ → ℕ → ℕ → Hex

-- k digits from i on, behind those that gave v. 01: 3 carries the character and stands on it; 4 stands at the end.
unfoldable pub read_hex : ℕ → ℕ → ℕ → Look Hex
read_hex zero v i = done (value v)
read_hex (suc k) v i =
    ask i (λ c. maybe c (done (no_digit end_at_hex_digit 0 i)) (λ x.
    maybe (hex_value x) (done (no_digit no_hex_digit x i)) (λ d. read_hex k (v * 16 + d) (i + 1))))

abbrev pub is_first_half : ℕ → Bool
is_first_half v = within (to 0xD800 0xDBFF) v

abbrev pub is_second_half : ℕ → Bool
is_second_half v = within (to 0xDC00 0xDFFF) v

-- The second half of a pair was read, up to i; h is the first. 01: 6 carries the value and stands behind the digits.
abbrev pub pair_of : ℕ → ℕ → Hex → Piece
pair_of h i (no_digit n c j) = stop (refused n c) j
pair_of h i (value l) = cond (is_second_half l) (char (0x10000 + (h - 0xD800) * 0x400 + (l - 0xDC00)) i) (stop (refused no_second_half l) i)

-- How many digits follow the letter of an escape.
abbrev pub digit_count : ℕ → ℕ
digit_count u = cond (eqb 0x55 u) 6 4

-- 01: after a first half two characters of any kind are skipped, then 6 digits if the second was `U`, else 4; with under two it is 7, which stands behind the first half's digits.
abbrev pub read_second_half : ℕ → ℕ → Look Piece
read_second_half h i = do
  u ← look (i + 1)
  maybe u (done (stop (refused end_at_second_half 0) i)) (λ x. do
    l ← read_hex (digit_count x) 0 (i + 2)
    done (pair_of h (i + 2 + digit_count x) l))

-- The digits of an escape were read, up to i. 01: 5 carries the value and stands behind the digits.
abbrev pub read_code_point : ℕ → Hex → Look Piece
read_code_point i (no_digit n c j) = done (stop (refused n c) j)
read_code_point i (value v) =
    cond (is_first_half v) (read_second_half v i)
    (cond (is_second_half v || ltb 0x10FFFF v) (done (stop (refused no_scalar_value v) i)) (done (char v i)))

-- An escape of n digits from i on.
abbrev pub read_unicode : ℕ → ℕ → Look Piece
read_unicode n i = do
  v ← read_hex n 0 i
  read_code_point (i + n) v

-- The six plain escapes: the letter behind the backslash and what it stands for.
abbrev pub plain_escape : ℕ → Option ℕ
plain_escape c =
    cond (eqb 0x27 c) (Some 0x27) (cond (eqb 0x22 c) (Some 0x22) (cond (eqb 0x5C c) (Some 0x5C)
    (cond (eqb 0x6E c) (Some 0x0A) (cond (eqb 0x72 c) (Some 0x0D) (cond (eqb 0x74 c) (Some 0x09) None)))))

-- A backslash at i with the character c behind it. 01: another backslash is copied.
abbrev pub read_escape : ℕ → ℕ → Look Piece
read_escape c i = maybe (plain_escape c)
    (cond (eqb 0x75 c || eqb 0x55 c) (read_unicode (digit_count c) (i + 2)) (done (char 0x5C (i + 1))))
    (λ x. done (char x (i + 2)))

-- The piece at i, whose first two cells are a and b; sofar are the characters before it.
abbrev pub piece_of : ℕ → List ℕ → Option ℕ → Option ℕ → Look Piece
piece_of i sofar a b = maybe a (done (stop (token TokenType.YyEof nothing) i)) (λ x.
    cond (eqb 0x5C x) (maybe b (done (char 0x5C (i + 1))) (λ y. read_escape y i))
    (cond (eqb 0x22 x) (done (stop (token TokenType.String (chars sofar)) (i + 1)))
    (cond (is_vertical_space x) (done (stop (token TokenType.YyUndef nothing) i)) (done (char x (i + 1))))))

abbrev pub read_piece : ℕ → List ℕ → Look Piece
read_piece i sofar = do
  a ← look i
  b ← look (i + 1)
  piece_of i sofar a b

-- The rest of a string, behind its quote and the characters sofar.
unfoldable pub read_string : ℕ → List ℕ → ℕ → Look (Read × ℕ)
read_string zero sofar i = done (token TokenType.YyEof nothing, i)
read_string (suc f) sofar i = do
  p ← read_piece i sofar
  on_piece p (λ c j. read_string f (sofar ++ c ∷ []) j) (λ r j. done (r, j))
