-- 01's starred cases, and the slips that it names, as one computed theorem.
use Rattle.std.specs.Prelude.{None}
use mathlib.Core.Path.{◌≡◌, refl}
use mathlib.Core.Bool.{true, false}
use mathlib.Core.List.{List, [], ◌∷◌, map}
use Prim.Native.Nat.{ℕ, zero, suc}
use Prim.Native.String.{String}
use Rattle.reading.specs.Codes.{codes}
use Rattle.reading.specs.Look.{cell_at}
use Rattle.reading.specs.Span.{gather}
use Rattle.text.specs.Ranges.{among}
use Rattle.text.specs.Classes.{is_vertical_space, is_whitespace, is_digit, is_name_start, is_name_part, is_white, is_symbol, is_separator}
use Rattle.names.specs.Same.{same, member}
use Rattle.names.specs.Trim.{trim}
use Rattle.names.specs.Flatten.{flat}
use Rattle.names.specs.Fixed.{range_properties, date_properties, time_properties, property_names, plain_types, temporal_types, type_names, temporal_names}
use Rattle.scope.specs.Entries.{variable, ParsingScope}
use Rattle.scope.specs.Keys.{qualified, keys_of, level, levels, is_name}
use Rattle.lexer.specs.Flags.{Flags, TillIn, AfterDot, no_flags, put}
use Rattle.lexer.specs.Read.{Read, token, refused, nothing, number, chars}
use Rattle.lexer.specs.Skip.{is_in_line, block_end, skip_from}
use Rattle.lexer.specs.Text.{read_hex, read_string}
use Rattle.lexer.specs.Parts.{walk}
use Rattle.lexer.specs.Window.{window, words, symbols, first_of}
use Rattle.lexer.specs.Token.{token_with}
use Rattle.lexer.specs.Lexer.{state, Step, step}
use Rattle.lexer.specs.TokenType

-- A text, the flags and the scope's variables at position 0 with the start token already taken; the last of so many further calls gives this, with that state.
pub record Case : Type 0 where
  pub text : String
  pub flags : Flags
  pub names : List String
  pub calls : ℕ
  pub read : Read
  pub position : ℕ
  pub after : Flags

abbrev variables : List String → ParsingScope
variables ns = record { contexts = 1; entries = map (λ n. record { context = 1; depth = 0; kind = variable; name = codes n }) ns; parsed = [] }

abbrev pub stepped : ℕ → ParsingScope → Step → List ℕ → Step
stepped zero scope a t = a
stepped (suc k) scope a t = stepped k scope (step scope a.next t) t

abbrev pub found : Case → Step
found c =
    let t = codes c.text in
    let scope = variables c.names in
    stepped c.calls scope (step scope (state 0 c.flags None) t) t

abbrev pub expected : Case → Step
expected c = record { read = c.read; next = state c.position c.after None }

abbrev plain : String → ℕ → Read → ℕ → Case
plain t k r p = record { text = t; flags = no_flags; names = []; calls = k; read = r; position = p; after = no_flags }

abbrev in_scope : String → List String → String → ℕ → Case
in_scope t ns n p = record { text = t; flags = no_flags; names = ns; calls = 0; read = token TokenType.Name (chars (codes n)); position = p; after = no_flags }

abbrev till_in : Flags
till_in = put true TillIn no_flags

abbrev after_dot : Flags
after_dot = put true AfterDot no_flags

abbrev flagged : String → Flags → List String → Read → ℕ → Flags → Case
flagged t f ns r p a = record { text = t; flags = f; names = ns; calls = 0; read = r; position = p; after = a }

abbrev pub cases : List Case
cases =
    plain ".5" 0 (token TokenType.Numeric (number (codes "0") (codes "5") false [])) 2
    ∷ plain "1e" 0 (token TokenType.Numeric (number (codes "1") [] false [])) 2
    ∷ plain "1..5" 0 (token TokenType.Numeric (number (codes "1") [] false [])) 1
    ∷ plain "1..5" 1 (token TokenType.Ellipsis nothing) 3
    ∷ plain "\"\\uD83D\\uDE4F\"" 0 (token TokenType.String (chars (0x1F64F ∷ []))) 14
    ∷ plain "\"\\uDC00\"" 0 (refused 5 0xDC00) 7
    ∷ plain "\"\\uD83D\"" 0 (refused 7 0) 7
    ∷ flagged "in+" till_in [] (refused 8 0) 0 till_in
    ∷ flagged "x in y" till_in [] (token TokenType.Name (chars (codes "x"))) 1 no_flags
    ∷ in_scope "row width-gutter" ("row width" ∷ []) "row width" 9
    ∷ in_scope "row width-gutter" ("row width" ∷ "row width-gutter" ∷ []) "row width-gutter" 16
    ∷ in_scope "a..b" ("a..b" ∷ "a" ∷ []) "a" 1
    ∷ in_scope "a // b" [] "a//b" 6
    ∷ plain "/*/" 0 (token TokenType.YyEof nothing) 3
    ∷ plain "" 0 (token TokenType.YyEof nothing) 0
    ∷ flagged "day" after_dot ("day" ∷ []) (token TokenType.Name (chars (codes "day"))) 3 no_flags
    ∷ flagged "fare" after_dot ("fare" ∷ []) (token TokenType.Name (chars (codes "fare"))) 4 after_dot
    ∷ []

pub starred : map found cases ≡ map expected cases
unfolding token_with window words symbols first_of gather is_in_line block_end skip_from read_hex read_string walk is_vertical_space is_whitespace is_digit is_name_start is_name_part is_white is_symbol is_separator among cell_at same member trim flat range_properties date_properties time_properties property_names plain_types temporal_types type_names temporal_names is_name levels level keys_of qualified
starred = refl
