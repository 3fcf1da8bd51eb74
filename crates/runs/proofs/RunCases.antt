-- Records computed as the record program prints them: 01's `.5`, every form of a value, refusals, and repairs.
use mathlib.Core.Path.{◌≡◌, refl}
use mathlib.Core.List.{List, [], ◌∷◌, map}
use Prim.Native.Nat.{ℕ}
use Prim.Native.String.{String}
use lib.ListN.{length, drop}
use Rattle.reading.specs.Codes.{codes}
use Rattle.reading.specs.Look.{cell_at}
use Rattle.reading.specs.Span.{gather}
use Rattle.text.specs.Ranges.{among}
use Rattle.text.specs.Classes.{is_vertical_space, is_whitespace, is_digit, is_name_start, is_name_part, is_white, is_symbol, is_separator}
use Rattle.text.specs.Utf8.{leading_ones, well_formed_rows, fits_row, fits_some, append_bits, decoded_from, sequence}
use Rattle.names.specs.Same.{same, member}
use Rattle.names.specs.Trim.{trim}
use Rattle.names.specs.Flatten.{flat}
use Rattle.names.specs.Fixed.{range_properties, date_properties, time_properties, property_names, plain_types, temporal_types, type_names, temporal_names}
use Rattle.scope.specs.Entries.{opened}
use Rattle.scope.specs.Keys.{qualified, keys_of, level, levels, is_name}
use Rattle.lexer.specs.Flags.{no_flags}
use Rattle.lexer.specs.Read.{token, nothing, chars}
use Rattle.lexer.specs.Skip.{is_in_line, block_end, skip_from}
use Rattle.lexer.specs.Text.{read_hex, read_string}
use Rattle.lexer.specs.Parts.{walk}
use Rattle.lexer.specs.Window.{window, words, symbols, first_of}
use Rattle.lexer.specs.Token.{token_with, read_token}
use Rattle.lexer.specs.TokenType
use Rattle.runs.specs.Item.{Item, item}
use Rattle.runs.specs.Run.{Reader, items, run_items}
use Rattle.runs.specs.Edit.{Edit, edited}
use Rattle.runs.specs.Repair.{old_rest, followed, last_kept, repaired_from, repair_items}
use Rattle.runs.specs.Print.{digits_in, lines, printed}

-- What is shown: what the record program prints for some bytes; the record of a text repaired after an edit; one repaired from items that no run made.
pub data Shown : Type 0 where
  program : List ℕ → Shown
  after_edit : String → ℕ → ℕ → String → Shown
  made_up : Edit → List Item → String → Shown

abbrev reader : Reader
reader = read_token (is_name opened)

unfoldable pub shown : Shown → List ℕ
unfolding items old_rest followed repaired_from digits_in token_with window words symbols first_of gather is_in_line block_end skip_from read_hex read_string walk is_vertical_space is_whitespace is_digit is_name_start is_name_part is_white is_symbol is_separator among cell_at same member trim flat range_properties date_properties time_properties property_names plain_types temporal_types type_names temporal_names is_name levels level keys_of qualified decoded_from sequence well_formed_rows fits_row fits_some leading_ones append_bits
shown (program bytes) = printed bytes
shown (after_edit old a b put) =
    let e : Edit = record { from = a; to = b; size = length (codes put) } in
    let was = run_items reader TokenType.StartExpression no_flags (codes old) in
    lines 0 (repair_items reader e was (drop (last_kept e was 0) (edited (codes old) a b (codes put))))
shown (made_up e was part) = lines 0 (repair_items reader e was (codes part))

pub record Case : Type 0 where
  pub input : Shown
  pub output : String

abbrev case : Shown → String → Case
case i o = record { input = i; output = o }

-- Of the repairs, the first meets a match behind its first fresh item; in the second the old last item would match, but is its record's last;
-- in the third, whose record no run made, the last kept item is the match, and nothing is read afresh.
abbrev pub cases : List Case
cases =
    case (program (codes ".5")) "0 258 0 0 -\n1 287 2 12 0/5/+/\n2 0 2 14 -\n"
    ∷ case (program (codes "1.25e-30")) "0 258 0 0 -\n1 287 8 12 1/25/-/30\n2 0 8 20 -\n"
    ∷ case (program (codes "true")) "0 258 0 0 -\n1 289 4 12 true\n2 0 4 16 -\n"
    ∷ case (program (codes "a // b")) "0 258 0 0 -\n1 310 6 12 =61,2F,2F,62\n2 0 6 18 -\n"
    ∷ case (program (codes "\"\"")) "0 258 0 0 -\n1 288 2 12 =\n2 0 2 14 -\n"
    ∷ case (program (codes "\"abcdefghijk\\uDC00\"")) "0 258 0 0 -\n1 R5 18 18 DC00\n"
    ∷ case (program (codes "\"abcdefghijk\\uD83D\"")) "0 258 0 0 -\n1 R7 18 20 -\n"
    ∷ case (program (codes "range               <")) "0 258 0 0 -\n1 278 5 21 -\n2 296 21 32 -\n3 0 21 33 -\n"
    ∷ case (program (0x41 ∷ 0xFF ∷ [])) "R2 1\n"
    ∷ case (after_edit "11 12 13" 0 2 "7") "0 258 0 0 -\n1 287 1 12 7//+/\n2 287 4 14 12//+/\n3 287 7 17 13//+/\n4 0 7 19 -\n"
    ∷ case (after_edit "1 " 1 2 "2") "0 258 0 0 -\n1 287 2 12 12//+/\n2 0 2 14 -\n"
    ∷ case (made_up (record { from = 1; to = 1; size = 0 })
    (item (token TokenType.StartExpression nothing) 0 no_flags 0 ∷ item (token TokenType.Name (chars (codes "a"))) 1 no_flags 1 ∷ item (token TokenType.YyEof nothing) 3 no_flags 15 ∷ []) "yz")
    "0 258 0 0 -\n1 310 1 1 =61\n2 0 3 15 -\n"
    ∷ []

pub record_cases : map (λ c. shown c.input) cases ≡ map (λ c. codes c.output) cases
unfolding shown
record_cases = refl
