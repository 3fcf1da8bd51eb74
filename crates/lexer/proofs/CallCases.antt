-- Token calls with the slices that they leave: the host's refusals in their order, a start token, a value, a refusal of the text, computed.
use Rattle.std.specs.Prelude.{None}
use mathlib.Core.Path.{◌≡◌, refl}
use mathlib.Core.List.{List, [], ◌∷◌, map}
use Prim.Native.Nat.{ℕ, zero, suc}
use Rattle.reading.specs.Codes.{codes}
use Rattle.reading.specs.Look.{cell_at}
use Rattle.reading.specs.Slices.{zeros}
use Rattle.reading.specs.Span.{gather}
use Rattle.text.specs.Ranges.{among}
use Rattle.text.specs.Classes.{is_vertical_space, is_whitespace, is_digit, is_name_start, is_name_part, is_white, is_symbol, is_separator}
use Rattle.names.specs.Same.{same, member}
use Rattle.names.specs.Trim.{trim}
use Rattle.names.specs.Flatten.{flat}
use Rattle.names.specs.Fixed.{range_properties, date_properties, time_properties, property_names, plain_types, temporal_types, type_names, temporal_names}
use Rattle.scope.specs.Keys.{level, levels, is_name}
use Rattle.scope.specs.Broken.{any_broken, any_repeated, is_broken_set, any_misplaced}
use Rattle.scope.specs.Lent.{Lent, held, any_too_long, is_broken}
use Rattle.lexer.specs.Flags.{TillIn, UnaryTests, no_flags}
use Rattle.lexer.specs.Read.{Read, token, refused, nothing, chars}
use Rattle.lexer.specs.Skip.{is_in_line, block_end, skip_from}
use Rattle.lexer.specs.Text.{read_hex, read_string}
use Rattle.lexer.specs.Parts.{walk}
use Rattle.lexer.specs.Window.{window, words, symbols, first_of}
use Rattle.lexer.specs.Token.{token_with}
use Rattle.lexer.specs.Lexer.{State, state, new_lexer, set, Called, next_token}

abbrev rows : ℕ → List (List ℕ)
rows zero = []
rows (suc n) = [] ∷ rows n

-- A scope of so many contexts, all empty.
abbrev scope_of : ℕ → Lent
scope_of n = record { contexts = n; entries = 0; parsed = 0; slots = rows 768; names = rows 768 }

pub record Case : Type 0 where
  pub scope : Lent
  pub from : State
  pub text : List ℕ
  pub output : List ℕ
  pub scratch : List ℕ
  pub after : Called

unfoldable pub found : Case → Called
unfolding token_with window words symbols first_of gather is_in_line block_end skip_from read_hex read_string walk is_vertical_space is_whitespace is_digit is_name_start is_name_part is_white is_symbol is_separator among cell_at same member trim flat range_properties date_properties time_properties property_names plain_types temporal_types type_names temporal_names is_name levels level is_broken held any_too_long any_misplaced any_broken any_repeated is_broken_set
found c = next_token c.scope c.from c.text c.output c.scratch

abbrev sevens : List ℕ
sevens = 7 ∷ 7 ∷ 7 ∷ []

-- Output 7 7 7, scratch 5 5 5 5 5 5: what a call with this text, scope and state leaves.
abbrev case : ℕ → State → List ℕ → Read → ℕ → State → List ℕ → Case
case n from t r place next output =
    record {
      scope = scope_of n;
      from = from;
      text = t;
      output = sevens;
      scratch = 5 ∷ 5 ∷ 5 ∷ 5 ∷ 5 ∷ 5 ∷ [];
      after = record { read = r; place = place; next = next; output = output; scratch = zeros 6 };
    }

abbrev taken : ℕ → State
taken p = state p no_flags None

abbrev pub cases : List Case
cases =
    case 33 (taken 5) (zeros 16385) (refused 1 0) 5 (taken 5) sevens
    ∷ case 33 (taken 5) (codes "abcd") (refused 12 0) 5 (taken 5) sevens
    ∷ case 33 (taken 2) (codes "abcd") (refused 10 0) 2 (taken 2) sevens
    ∷ case 1 (taken 2) (codes "abcd") (refused 9 0) 2 (taken 2) sevens
    ∷ case 1 (new_lexer 258) (codes "abc") (token 258 nothing) 0 (taken 0) sevens
    ∷ case 1 (set UnaryTests (new_lexer 999)) (codes "abc") (token 256 nothing) 0 (set UnaryTests (taken 0)) sevens
    ∷ case 1 (taken 1) (codes "+ab") (token 310 (chars (codes "ab"))) 3 (taken 3) (0x61 ∷ 0x62 ∷ 7 ∷ [])
    ∷ case 1 (set UnaryTests (set TillIn (taken 0))) (codes "in+") (refused 8 0) 0 (set TillIn (taken 0)) sevens
    ∷ case 1 (taken 0) (codes "\"a\n") (token 257 nothing) 2 (taken 2) sevens
    ∷ []

pub token_calls : map found cases ≡ map (λ c. c.after) cases
unfolding found
token_calls = refl
