-- Each case of the window comes to one reader, whose reach is the larger of its own and the reach so far.
use mathlib.Core.Path.{◌≡◌, refl, sym, ap, ◌∙◌, subst}
use mathlib.Core.Bool.{Bool, true, false, ◌&&◌, ◌||◌}
use mathlib.Core.List.{List, [], ◌∷◌}
use Prim.Native.Nat.{ℕ, ◌+◌, ◌-◌, ◌≤◌, ◌<◌, max}
use native.Mathlib.Numerals.{add-one}
use native.Mathlib.Omega.{arith}
use lib.Dec.{eqb}
use lib.ListN.{length, get_or}
use Rattle.reading.specs.Codes.{codes}
use Rattle.reading.specs.Look.{cell_at, Look, done, ◌>>=◌}
use Rattle.reading.specs.Cells.{holds, is}
use Rattle.reading.specs.Goes.{Goes, Reads}
use Rattle.reading.specs.Span.{part}
use Rattle.reading.specs.Slices.{Wrote}
use Rattle.reading.proofs.Test.{both, either}
use Rattle.reading.proofs.Cell.{cell_there}
use Rattle.reading.proofs.Passed.{part_length}
use Rattle.reading.proofs.Going.{Stands, begins, takes, takes_on, finds, goes_on_lem, sees_from}
use Rattle.text.specs.Limits.{max_chars}
use Rattle.text.specs.Ranges.{among}
use Rattle.text.specs.Classes.{is_digit, is_name_start, is_name_part}
use Rattle.text.proofs.Scalars.{name_start-part}
use Rattle.names.specs.Same.{same}
use Rattle.lexer.specs.Flags.{Flags, UnaryTests, clear}
use Rattle.lexer.specs.Read as spec
use Rattle.lexer.specs.Read.{Read, token, refused, nothing, chars, outcome, cells_of}
use Rattle.lexer.specs.TokenType
use Rattle.lexer.specs.Skip.{skip}
use Rattle.lexer.specs.Number.{or_zero, numeric, read_number}
use Rattle.lexer.specs.Text.{read_string}
use Rattle.lexer.specs.Naming.{read_name}
use Rattle.lexer.specs.Window.{Row, shown, after_word, symbols, first_of}
use Rattle.lexer.specs.Token.{fuel, with_flags, other_cases, behind_words, cases, token_with, read_token}
use Rattle.lexer.specs.Shown.{window_of}
use Rattle.lexer.specs.Numerals.{Numbered, digits_of}
use Rattle.lexer.specs.Pieces.{Inside, Written, text_of, text_end, text_reach}
use Rattle.words.specs.Keywords.{value_of, Matched, Says}
use Rattle.lexer.specs.FlagsOf.{flags_of}
use Rattle.lexer.specs.Taken.{Gives, Takes, Taken}
use Rattle.lexer.specs.declared.number.Number.{Number}
use Rattle.text.specs.RefusalNumber.{number_of}
use Rattle.lexer.specs.declared.string.Literal.{Literal}
use Rattle.lexer.specs.declared.string.Literal.TheVariants.{Chars as StringChars, LineEnds, TextEnds}
use Rattle.lexer.specs.declared.string.Broken.{Broken}
use Rattle.words.specs.declared.keywords.Match.{Match}
use Rattle.words.specs.declared.keywords.Found.{Found}
use Rattle.std.specs.Prelude.{None, Some, Result, Ok, Err}
use Rattle.lexer.specs.declared.flags.Flags.{Flags as CodeFlags}
use Rattle.lexer.specs.declared.token.Outcome.{Outcome}
use Rattle.lexer.specs.TypeNumber.{type_number}
use Rattle.lexer.specs.Answered.{Told, numeric as told_numeric, letters}
use Rattle.lexer.specs.declared.token.Token.{Token}
use Rattle.lexer.specs.declared.token.Token.TheVariants.{Numeric, Chars}
use Rattle.lexer.specs.declared.token.Refused.{Refused}
use Rattle.lexer.specs.declared.token_type.TokenType.TheVariants.{String}
use Rattle.lexer.proofs.NumberFacts.{numbers_digit, numbers_point}
use Rattle.lexer.proofs.TokenFacts.{shown-holds}
use Rattle.lexer.proofs.WindowLaws.{window-seen}

-- A reading that gave an outcome, and the code that gave it.
pub takes_given : {t : List ℕ} {q : ℕ} {m : Look spec.Outcome} {c : spec.Outcome} {to : ℕ} → Goes t q m c to → {o o' : List ℕ} {r : Outcome} → Gives c to o r o' → Takes t q m o r o'
takes_given {c = c} s g = record { read = c.read; sees = rw (g.used, g.flags, g.looked) s; shown = g.read; left = g.left }

pub takes_as : {t : List ℕ} {q : ℕ} {m n : Look spec.Outcome} → n ≡ m → {o o' : List ℕ} {r : Outcome} → Takes t q m o r o' → Takes t q n o r o'
takes_as {t} {q} e {o} {o'} {r} g = subst (λ x. Takes t q x o r o') (sym e) g

-- A reading that was made from the start, from any reach so far.
pub takes_later : {t : List ℕ} {m : Look spec.Outcome} {o o' : List ℕ} {r : Outcome} → Takes t 0 m o r o' → (q : ℕ) {to : ℕ} → to ≡ max q r.reach
    → Takes t q m o (record { read = r.read; used = r.used; flags = r.flags; reach = to }) o'
takes_later {t} {m} g q {to} e = record { read = g.read; sees = sees_from (begins t q m) g.sees to (sym e); shown = g.shown; left = g.left }

-- Numbers.
zero_length : (xs : List ℕ) {n k : ℕ} → n ≡ length xs → k ≡ max n 1 → k ≡ length (or_zero xs)
zero_length [] e q = omega arith
zero_length (x ∷ xs) e q = omega arith

numeric-same : {a b c a' b' c' : ℕ} (m : Bool) → a ≡ a' → b ≡ b' → c ≡ c' → told_numeric a b m c ≡ told_numeric a' b' m c'
numeric-same m p q r = rw (p, q, r)

abbrev pub Starts : List ℕ → ℕ → Bool
Starts t i = holds is_digit (cell_at t i) || (is 0x2E (cell_at t i) && holds is_digit (cell_at t (i + 1)))

module _ {t : List ℕ} {i : ℕ} {n : Number} (d : Numbered t i n) where
  pub number-room : length t ≤ max_chars → Starts t i ≡ true → {l : ℕ} → length t ≤ l → length (digits_of t i n) ≤ l
  number-room small h l =
      let e = ap (λ x. x.answer.0) d.sees.same in
      let u = ap (λ x. x.answer.1) d.sees.same in
      either (holds is_digit (cell_at t i)) h
      (λ a. let s = (numbers_digit t fuel fuel (omega arith) (omega arith) i a).holding in omega (arith, ap (λ x. length (cells_of x)) e, u, s.short, s.in_text))
      (λ a. let b = both (is 0x2E (cell_at t i)) _ a in let s = (numbers_point t fuel fuel (omega arith) (omega arith) i b.0 b.1).holding in omega (arith, ap (λ x. length (cells_of x)) e, u, s.short, s.in_text))

  pub number-taken : {o o' : List ℕ} {k : ℕ} → Wrote o (digits_of t i n) k o' → (f : CodeFlags) {q to before : ℕ} → to ≡ max q n.reach → before ≡ max (n.before - i) 1
      → Takes t q (with_flags (flags_of f) (read_number fuel i)) o (record { read = Ok (Numeric before (n.after - n.from) n.minus (n.end - n.exponent)); used = n.end; flags = f; reach = to }) o'
  number-taken w f {q} {to} e b =
      let x = d.point in let y = d.second in let z = d.letter in let u = d.third in let v = d.within in
      record {
        read = numeric (part t i n.before) (part t n.from n.after) n.minus (part t n.exponent n.end);
        sees = finds (takes d.sees _ (begins t q (with_flags (flags_of f) (read_number fuel i))) to (sym e));
        shown = numeric-same n.minus (zero_length (part t i n.before) (sym (part_length t i n.before (omega arith))) b) (sym (part_length t n.from n.after (omega arith))) (sym (part_length t n.exponent n.end (omega arith)));
        left = w.left;
      }

-- Strings.
module _ (t : List ℕ) (i : ℕ) (f : CodeFlags) (q to : ℕ) where
  abbrev Stringed : List ℕ → Result Token Refused → ℕ → List ℕ → Type 0
  Stringed o a e o' = Takes t q (with_flags (flags_of f) (read_string fuel [] i)) o (record { read = a; used = e; flags = f; reach = to }) o'

  string_sees : {y : Result Literal Broken} (s : Inside t i y) → to ≡ max q (text_reach y) → Goes t q (with_flags (flags_of f) (read_string fuel [] i)) (outcome (text_of s.cells y) (text_end y) (flags_of f)) to
  string_sees s e = finds (takes s.sees _ (begins t q (with_flags (flags_of f) (read_string fuel [] i))) to (sym e))

  pub string_broken : {b : Broken} {o : List ℕ} → Inside t i (Err b) → to ≡ max q b.reach → Stringed o (Err (record { refusal = b.refusal; carry = b.carry })) b.place o
  string_broken {b} s r = record { read = refused (number_of b.refusal) b.carry; sees = string_sees s r; shown = refl; left = refl }

  module _ {x : Literal} (s : Inside t i (Ok x)) where
    is_at : {y : Literal} → x ≡ y → Inside t i (Ok y)
    is_at p = subst (λ z. Inside t i (Ok z)) p s

    pub string_chars : {n e k : ℕ} {o o' : List ℕ} → x ≡ StringChars n e → Written t i o k o' → to ≡ max q (e + 1) → Stringed o (Ok (Chars String k)) e o'
    string_chars {n} {e} p w r =
        let y = is_at p in
        let v = w.wrote y.cells e (e + 1) y.sees in
        record { read = token TokenType.String (chars y.cells); sees = string_sees y r; shown = ap (letters TokenType.String) v.size; left = v.left }

    pub string_line : {e : ℕ} {o : List ℕ} {r : Outcome} → x ≡ LineEnds e → to ≡ max q (e + 2) → ((u : List ℕ) → Gives (outcome (token TokenType.YyUndef nothing) e (flags_of f)) to u r u) → Takes t q (with_flags (flags_of f) (read_string fuel [] i)) o r o
    string_line {e} {o} p r w = takes_given (string_sees (is_at p) r) (w o)

    pub string_text : {e : ℕ} {o : List ℕ} {r : Outcome} → x ≡ TextEnds e → to ≡ max q (e + 2) → ((u : List ℕ) → Gives (outcome (token TokenType.YyEof nothing) e (flags_of f)) to u r u) → Takes t q (with_flags (flags_of f) (read_string fuel [] i)) o r o
    string_text {e} {o} p r w = takes_given (string_sees (is_at p) r) (w o)

-- The character c at i, as the window shows it.
module _ (t : List ℕ) (i : ℕ) {c : ℕ} (e : c ≡ shown (cell_at t i)) where
  first-shown : get_or (window_of 12 t i) 0 0 ≡ c
  unfolding window_of
  first-shown = sym e

  second_shown : get_or (window_of 12 t i) 1 0 ≡ shown (cell_at t (i + 1))
  unfolding window_of
  second_shown = rw (add-one i)

  pub digit_starts : is_digit c ≡ true → Starts t i ≡ true
  unfolding is_digit among
  digit_starts h = rw (shown-holds is_digit (cell_at t i) refl (rw e at h))

  or_right : (a : Bool) {b : Bool} → b ≡ true → a || b ≡ true
  or_right true e = refl
  or_right false e = e

  pub point_starts : eqb 0x2E c && is_digit (shown (cell_at t (i + 1))) ≡ true → Starts t i ≡ true
  unfolding is_digit among
  point_starts h =
      let b = both (eqb 0x2E c) _ h in
      or_right (holds is_digit (cell_at t i)) (rw (shown-holds (eqb 0x2E) (cell_at t i) refl (rw e at b.0), shown-holds is_digit (cell_at t (i + 1)) refl b.1))

  pub quote_there : eqb 0x22 c ≡ true → i < length t
  quote_there h = cell_there (eqb 0x22) t i (shown-holds (eqb 0x22) (cell_at t i) refl (rw e at h))

  pub name_there : is_name_start c ≡ true → holds is_name_part (cell_at t i) ≡ true
  unfolding is_name_part is_name_start is_digit among
  name_there h = shown-holds is_name_part (cell_at t i) refl (rw e at (name_start-part c h))

-- What follows the words, and what follows the symbols.
module _ (f : Flags) (is_name : List ℕ → Bool) (t : List ℕ) (i : ℕ) {c : ℕ} (first : c ≡ shown (cell_at t i)) where
  pub case-digit : {b : Bool} → b ≡ is_digit c → b ≡ true → other_cases fuel f is_name (window_of 12 t i) i ≡ with_flags f (read_number fuel i)
  case-digit p e = rw (first-shown t i first, sym p ∙ e)

  module _ {b : Bool} (p : b ≡ is_digit c) (e : b ≡ false) {a : Bool} (q : a ≡ is_name_start c) where
    pub case_name : a ≡ true → other_cases fuel f is_name (window_of 12 t i) i ≡ read_name fuel f is_name i
    case_name d = rw (first-shown t i first, sym p ∙ e, sym q ∙ d)

    module _ (d : a ≡ false) {z : Bool} (r : z ≡ same (window_of 12 t i) (codes "            ")) where
      pub case-end : z ≡ true → other_cases fuel f is_name (window_of 12 t i) i ≡ done (outcome (token TokenType.YyEof nothing) i f)
      case-end h = rw (first-shown t i first, sym p ∙ e, sym q ∙ d, sym r ∙ h)

      pub case_nothing : z ≡ false → other_cases fuel f is_name (window_of 12 t i) i ≡ done (outcome (token TokenType.YyUndef nothing) i f)
      case_nothing h = rw (first-shown t i first, sym p ∙ e, sym q ∙ d, sym r ∙ h)

  module _ {b : Bool} (p : b ≡ eqb 0x2E c && is_digit (shown (cell_at t (i + 1)))) where
    pub case-point : b ≡ true → behind_words fuel f is_name (window_of 12 t i) i ≡ with_flags f (read_number fuel i)
    case-point e = rw (first-shown t i first, second_shown t i first, sym p ∙ e)

    module _ (e : b ≡ false) where
      pub case_quote : eqb 0x22 c ≡ true → behind_words fuel f is_name (window_of 12 t i) i ≡ with_flags f (read_string fuel [] (i + 1))
      case_quote d = rw (first-shown t i first, second_shown t i first, sym p ∙ e, d)

      pub case-symbol : eqb 0x22 c ≡ false → behind_words fuel f is_name (window_of 12 t i) i ≡ first_of fuel symbols f (window_of 12 t i) i (other_cases fuel f is_name (window_of 12 t i) i)
      case-symbol d = rw (first-shown t i first, second_shown t i first, sym p ∙ e, d)

-- Nothing more is looked at.
pub takes_done : (t : List ℕ) (q : ℕ) (c : spec.Outcome) {o o' : List ℕ} {r : Outcome} → Gives c q o r o' → Takes t q (done c) o r o'
takes_done t q c g = takes_given (finds (begins t q (done c))) g

-- A row that fits gives its token; if none does, what is read otherwise is read.
module _ {t w : List ℕ} {i q : ℕ} {f : Flags} {m : Match} where
  pub row-taken : (rows : List Row) → Matched rows t q i w f m → (otherwise : Look spec.Outcome) {d : Found} → m.found ≡ Some d → {o : List ℕ} {r : Outcome}
      → ((u : List ℕ) → Gives (outcome (token (type_number d.kind) (value_of d.value)) d.end (after_word (type_number d.kind) f)) m.reach u r u) → Takes t q (first_of fuel rows f w i otherwise) o r o
  row-taken rows g otherwise p {o} h = takes_given (subst (λ x. Says rows t q i w f x m.reach) p g.says otherwise) (h o)

  pub row_missed : (rows : List Row) → Matched rows t q i w f m → {otherwise : Look spec.Outcome} → m.found ≡ None → {o o' : List ℕ} {r : Outcome}
      → Takes t m.reach otherwise o r o' → Takes t q (first_of fuel rows f w i otherwise) o r o'
  row_missed rows g {otherwise} p x = record { read = x.read; sees = goes_on_lem (subst (λ d. Says rows t q i w f d m.reach) p g.says otherwise) x.sees; shown = x.shown; left = x.left }

-- The whole token: whitespace and comments, the window, its cases; `unary_tests` is cleared.
module _ (is_name : List ℕ → Bool) (f : Flags) {t : List ℕ} {i : ℕ} (s : Reads t (skip fuel) i (i + 2)) where
  fronted : Stands t 0 (read_token is_name f) (cases fuel f is_name (window_of 12 t i) i >>= (λ o. done (outcome o.read o.used (clear UnaryTests o.flags)))) (i + 12)
  unfolding token_with
  fronted =
      let n = s.near in
      let z : max s.reach (i + 12) ≡ i + 12 = omega arith in
      let g = takes_on {m = skip fuel} (record { same = s.same }) _ (begins t 0 (read_token is_name f)) in
      rw z at (takes_on (window-seen t s.reach i) _ g)

  pub token_taken : {o o' : List ℕ} {r : Outcome} → Takes t (i + 12) (cases fuel f is_name (window_of 12 t i) i) o r o' → (g : CodeFlags) → flags_of g ≡ clear UnaryTests (flags_of r.flags)
      → Taken t is_name f o (record { read = r.read; used = r.used; flags = g; reach = r.reach }) o'
  token_taken x g h = record { read = x.read; sees = rw h (finds (takes_on x.sees _ fronted)); shown = x.shown; left = x.left }
