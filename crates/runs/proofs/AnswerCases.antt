-- Answers of the calls run and repair with the slices that they leave: refusals in their order, and a record in its front, computed.
use mathlib.Core.Path.{◌≡◌, refl}
use mathlib.Core.List.{List, [], ◌∷◌, ◌++◌, map}
use Prim.Native.Nat.{ℕ, zero, suc, ◌-◌}
use Rattle.reading.specs.Codes.{codes}
use Rattle.reading.specs.Look.{cell_at}
use Rattle.reading.specs.Slices.{zeros}
use Rattle.reading.specs.Span.{gather}
use Rattle.text.specs.Ranges.{among}
use Rattle.text.specs.Classes.{is_vertical_space, is_whitespace, is_digit, is_name_start, is_name_part, is_white, is_symbol, is_separator}
use Rattle.names.specs.Same.{same, member}
use Rattle.names.specs.Trim.{trim}
use Rattle.names.specs.Flatten.{flat}
use Rattle.names.specs.Fixed.{range_properties, date_properties, time_properties, property_names, plain_types, temporal_types, type_names, temporal_names}
use Rattle.scope.specs.Keys.{level, levels, is_name}
use Rattle.scope.specs.Broken.{any_broken, any_repeated, is_broken_set, any_misplaced}
use Rattle.scope.specs.Lent.{Lent, held, any_too_long, is_broken}
use Rattle.lexer.specs.Flags.{no_flags}
use Rattle.lexer.specs.Skip.{is_in_line, block_end, skip_from}
use Rattle.lexer.specs.Text.{read_hex, read_string}
use Rattle.lexer.specs.Parts.{walk}
use Rattle.lexer.specs.Window.{window, words, symbols, first_of}
use Rattle.lexer.specs.Token.{token_with}
use Rattle.runs.specs.Run.{items}
use Rattle.runs.specs.Repair.{old_rest, followed, repaired_from}
use Rattle.runs.specs.Record.{Record}
use Rattle.runs.specs.Request.{Request, rows_fit}
use Rattle.runs.specs.Calls.{Room, Answer, made, refused, room_after, run_call, repair_call}

abbrev rows : ℕ → List (List ℕ)
rows zero = []
rows (suc n) = (8 ∷ []) ∷ rows n

-- A scope of so many contexts, all empty.
abbrev scope_of : ℕ → Lent
scope_of n = record { contexts = n; entries = 0; parsed = 0; slots = rows 768; names = rows 768 }

-- Room for a text of so many characters.
abbrev room_for : ℕ → Room
room_for n = record { rows = rows (suc (suc n)); store = zeros n; scratch = 5 ∷ 5 ∷ 5 ∷ 5 ∷ [] }

-- A run of a text over a scope of n contexts, and a repair of a record.
pub data Call : Type 0 where
  run : ℕ → ℕ → List ℕ → Call
  repair : ℕ → ℕ → Request → Call

unfoldable pub answered : Call → Answer
unfolding items old_rest followed repaired_from rows_fit token_with window words symbols first_of gather is_in_line block_end skip_from read_hex read_string walk is_vertical_space is_whitespace is_digit is_name_start is_name_part is_white is_symbol is_separator among cell_at same member trim flat range_properties date_properties time_properties property_names plain_types temporal_types type_names temporal_names is_name levels level is_broken held any_too_long any_misplaced any_broken any_repeated is_broken_set
answered (run n room t) = run_call (scope_of n) (room_for room) 258 no_flags t
answered (repair n room q) = repair_call (scope_of n) (room_for room) q

-- The record of `"a`: the start token and YyEof.
abbrev record₂ : Record
record₂ = record { rows = (0 ∷ 258 ∷ 0 ∷ 0 ∷ 0 ∷ 0 ∷ 0 ∷ 0 ∷ 0 ∷ 0 ∷ 0 ∷ []) ∷ (0 ∷ 0 ∷ 2 ∷ 0 ∷ 12 ∷ 0 ∷ 0 ∷ 0 ∷ 0 ∷ 0 ∷ 0 ∷ []) ∷ []; store = [] }

-- Its repair, b taking the place of a.
abbrev request : ℕ → ℕ → List ℕ → Request
request a b part = record { old_length = 2; old = record₂; edit = record { from = a; to = b; size = 1 }; part = part }

-- A row of reach and position `at`, with one value cell behind those of the rows before it: refused, number, flags, and its last four numbers.
abbrev row : ℕ → ℕ → ℕ → ℕ → List ℕ → List ℕ
row at r number flags more = r ∷ number ∷ at ∷ flags ∷ at ∷ (at - 1) ∷ 1 ∷ more

-- A record of two characters that no run made, and an edit behind them, which keeps all of it.
abbrev odd : List ℕ → List ℕ → Request
odd r s = record {
  old_length = 2;
  old = record { rows = (0 ∷ 258 ∷ 0 ∷ 0 ∷ 0 ∷ 0 ∷ 0 ∷ 0 ∷ 0 ∷ 0 ∷ 0 ∷ []) ∷ r ∷ s ∷ []; store = 7 ∷ 8 ∷ [] };
  edit = record { from = 2; to = 2; size = 0 };
  part = [];
}

abbrev eof : List ℕ
eof = row 2 0 0 0 (0 ∷ 0 ∷ 0 ∷ 0 ∷ [])

pub record Case : Type 0 where
  pub call : Call
  pub answer : Answer

abbrev case : Call → Answer → Case
case c a = record { call = c; answer = a }

abbrev comes_back : Request → Case
comes_back q = case (repair 1 2 q) (made q.old)

abbrev is13 : Request → Case
is13 q = case (repair 1 2 q) (refused 13)

-- Of the rows that no run made, those come back as they were that 01's list for 13 does not name: a Boolean of 2 with a value, flags all set; a refusal with a value and lengths;
-- a Name with lengths and a carry; a number with a sign of 7. A number whose lengths do not add up, refused 2 and flags 32 are 13.
abbrev pub cases : List Case
cases =
    case (run 1 2 (codes "\"a")) (made record₂)
    ∷ case (run 33 0 (zeros 16385)) (refused 1)
    ∷ case (run 33 0 (codes "\"a")) (refused 10)
    ∷ case (run 1 1 (codes "\"a")) (refused 9)
    ∷ case (repair 1 2 (request 1 2 (codes "\"b"))) (made record₂)
    ∷ case (repair 33 0 (request 2 1 (codes "\"b"))) (refused 13)
    ∷ case (repair 33 0 (request 1 3 (codes "\"b"))) (refused 13)
    ∷ case (repair 33 0 (request 1 2 (codes "\"bc"))) (refused 13)
    ∷ case (repair 33 0 (record { old_length = 2; old = record₂; edit = record { from = 1; to = 2; size = 16384 }; part = zeros 16385 })) (refused 1)
    ∷ case (repair 33 0 (request 1 2 (codes "\"b"))) (refused 10)
    ∷ case (repair 1 1 (request 1 2 (codes "\"b"))) (refused 9)
    ∷ comes_back (odd (row 1 0 289 31 (0 ∷ 0 ∷ 0 ∷ 2 ∷ [])) (row 2 1 287 0 (4 ∷ 5 ∷ 6 ∷ 7 ∷ [])))
    ∷ comes_back (odd (row 1 0 310 0 (4 ∷ 5 ∷ 6 ∷ 7 ∷ [])) eof)
    ∷ comes_back (odd (row 1 0 287 0 (0 ∷ 1 ∷ 0 ∷ 7 ∷ [])) eof)
    ∷ is13 (odd (row 1 0 287 0 (1 ∷ 1 ∷ 0 ∷ 0 ∷ [])) eof)
    ∷ is13 (odd (row 1 0 310 0 (0 ∷ 0 ∷ 0 ∷ 0 ∷ [])) (row 2 2 0 0 (0 ∷ 0 ∷ 0 ∷ 0 ∷ [])))
    ∷ is13 (odd (row 1 0 310 32 (0 ∷ 0 ∷ 0 ∷ 0 ∷ [])) eof)
    ∷ []

pub answer-cases : map (λ c. answered c.call) cases ≡ map (λ c. c.answer) cases
unfolding answered
answer-cases = refl

-- The record fills the front of its slice; a refusal leaves rows and store as they were; scratch is zero.
pub room-cases :
    (room_after (made record₂) (room_for 1) ≡ record { rows = record₂.rows ++ ((8 ∷ []) ∷ []); store = zeros 1; scratch = zeros 4 })
    × (room_after (refused 10) (room_for 1) ≡ record { rows = rows 3; store = zeros 1; scratch = zeros 4 })
room-cases = (refl, refl)
