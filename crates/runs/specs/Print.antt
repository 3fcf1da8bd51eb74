-- The record program: what it prints for the bytes that it reads.
use Rattle.std.specs.Prelude.{Bool, cond, List, [], ◌∷◌, ◌++◌, ℕ, zero, suc, ◌+◌, ◌/◌, ◌%◌, ltb, eqb, length, take, drop}
use Rattle.reading.specs.Codes.{codes}
use Rattle.reading.specs.Cells.{is_one_of}
use Rattle.text.specs.Limits.{max_chars}
use Rattle.text.specs.Refusals.{too_long, no_hex_digit, no_scalar_value, no_second_half}
use Rattle.text.specs.Utf8.{Opened, opened, refused, open_bytes}
use Rattle.scope.specs.Entries
use Rattle.scope.specs.Keys.{is_name}
use Rattle.lexer.specs.Flags.{no_flags}
use Rattle.lexer.specs.Read.{text_types}
use Rattle.lexer.specs.Token.{read_token}
use Rattle.lexer.specs.TokenType
use Rattle.runs.specs.Item.{Item}
use Rattle.runs.specs.Run.{run_items}

-- Digits 0 to 9, then A to F.
abbrev pub digit : ℕ → ℕ
digit d = cond (ltb d 10) (0x30 + d) (0x37 + d)

-- The digits of a number in a base, before those already there; no number that is printed has more than so many.
unfoldable pub digits_in : ℕ → ℕ → ℕ → List ℕ → List ℕ
digits_in base zero n ds = ds
digits_in base (suc more) n ds = let rest = digit (n % base) ∷ ds in cond (ltb n base) rest (digits_in base more (n / base) rest)

-- Ten digits hold every u32.
abbrev pub decimal : ℕ → List ℕ
decimal n = digits_in 10 10 n []

abbrev pub hexadecimal : ℕ → List ℕ
hexadecimal n = digits_in 16 10 n []

abbrev pub joined_by_comma : List ℕ → List ℕ
joined_by_comma [] = []
joined_by_comma (c ∷ []) = hexadecimal c
joined_by_comma (c ∷ d ∷ cs) = hexadecimal c ++ codes "," ++ joined_by_comma (d ∷ cs)

-- Digits before and after the point, the exponent's sign (1 is a minus) and its digits, of a value with so many before and after.
abbrev pub number_field : ℕ → ℕ → ℕ → List ℕ → List ℕ
number_field before after sign value =
    take before value ++ codes "/" ++ take after (drop before value) ++ codes "/" ++ cond (eqb sign 1) (codes "-") (codes "+") ++ codes "/" ++ drop (before + after) value

abbrev pub truth_field : ℕ → List ℕ
truth_field truth = cond (eqb truth 1) (codes "true") (codes "false")

-- 01: 3, 5 and 6 carry a character or a value.
abbrev pub has_carry : ℕ → Bool
has_carry n = is_one_of (no_hex_digit ∷ no_scalar_value ∷ no_second_half ∷ []) n

abbrev pub carry_field : ℕ → ℕ → List ℕ
carry_field n carry = cond (has_carry n) (hexadecimal carry) (codes "-")

-- Numbers as before/after/sign/exponent; names and strings as `=` and code points; Booleans; carries; others as `-`.
abbrev pub value_field : Item → List ℕ
value_field i =
    cond i.is_refusal (carry_field i.number i.extra)
    (cond (eqb TokenType.Numeric i.number) (number_field i.lengths.before i.lengths.after i.extra i.value)
    (cond (is_one_of text_types i.number) (codes "=" ++ joined_by_comma i.value)
    (cond (eqb TokenType.Boolean i.number) (truth_field i.extra)
    (codes "-"))))

-- 01: item, type (R and number if refused), position, reach, value.
abbrev pub line : ℕ → Item → List ℕ
line n i =
    decimal n ++ codes " " ++ cond i.is_refusal (codes "R") [] ++ decimal i.number ++ codes " " ++ decimal i.position ++ codes " " ++ decimal i.reach ++ codes " " ++ value_field i ++ codes "\n"

abbrev pub lines : ℕ → List Item → List ℕ
lines n [] = []
lines n (i ∷ is) = line n i ++ lines (suc n) is

-- 01: refused opening is one line, R with number, space, place.
abbrev pub refused_line : ℕ → ℕ → List ℕ
refused_line n p = codes "R" ++ decimal n ++ codes " " ++ decimal p ++ codes "\n"

abbrev pub printed_of : Opened → List ℕ
printed_of (opened t) = lines 0 (run_items (read_token (is_name Entries.opened)) TokenType.StartExpression no_flags t)
printed_of (refused n p) = refused_line n p

-- 01: it takes up to 2,048 bytes, with start type 258, default scope and no flags.
abbrev pub printed : List ℕ → List ℕ
printed bytes = cond (ltb 2048 (length bytes)) (refused_line too_long 0) (printed_of (open_bytes bytes max_chars))
