-- A number's value is digits, whatever the text: the reader's answers, way by way, with no thought of looks or fuel.
use Rattle.std.specs.Prelude.{Option, None, Some}
use mathlib.Core.Path.{◌≡◌, refl, sym, subst}
use mathlib.Core.Bool.{Bool, true, false, cond, ◌&&◌, ◌||◌}
use mathlib.Core.List.{List, [], ◌∷◌, ◌++◌}
use Prim.Native.Nat.{ℕ, zero, suc, ◌+◌}
use lib.Dec.{ltb, eqb}
use lib.ListN.{length, get_or}
use Rattle.reading.specs.Codes.{codes}
use Rattle.reading.specs.Look.{cell_at, Look, done, ask, ◌>>=◌, run_from, run, reaching}
use Rattle.reading.specs.Cells.{maybe, is, holds}
use Rattle.reading.specs.Span.{gather}
use Rattle.reading.proofs.Test.{by_test, both, all_of}
use Rattle.reading.proofs.Reading.{run_bind}
use Rattle.text.specs.Ranges.{among}
use Rattle.text.specs.Classes.{is_vertical_space, is_digit, is_name_start}
use Rattle.names.specs.Same.{same, member}
use Rattle.names.specs.Name.{new_name}
use Rattle.names.specs.Fixed.{type_names, temporal_names}
use Rattle.lexer.specs.Flags.{Flags}
use Rattle.lexer.specs.Read.{Read, token, refused, Outcome, value_cells}
use Rattle.lexer.specs.TokenType
use Rattle.lexer.specs.Skip.{skip}
use Rattle.lexer.specs.Number.{or_zero, numeric, read_sign, read_exponent, read_number}
use Rattle.lexer.specs.Text.{Piece, char, stop, on_piece, Hex, value, no_digit, read_hex, is_first_half, is_second_half, pair_of, digit_count, read_second_half, read_code_point, plain_escape, read_escape, read_piece, read_string}
use Rattle.lexer.specs.Parts.{Part, walk}
use Rattle.lexer.specs.Naming.{texts, name_of, starts_with, before_in, longest, is_found, all_parts, by_prefix, by_in, cut_name}
use Rattle.lexer.specs.Window.{window, Row, words, symbols, taken, leads, is_followed, first_of}
use Rattle.lexer.specs.Token.{other_cases, cases, token_with, read_token}

-- P holds of the reading's answer, whatever the text and the reach so far.
record Always {A : Type 0} (P : A → Type 0) (m : Look A) : Type 0 where
  so : (t : List ℕ) (r : ℕ) → P (run_from t r m).answer

module _ {A : Type 0} {P : A → Type 0} where
  answers : {a : A} → P a → Always P (done a)
  answers p = record { so = λ t r. p }

  asks : {i : ℕ} {f : Option ℕ → Look A} → ((c : Option ℕ) → Always P (f c)) → Always P (ask i f)
  asks {i} h = record { so = λ t r. (h (cell_at t i)).so t (reaching r i) }

  binds : {B : Type 0} {Q : B → Type 0} {m : Look A} {k : A → Look B} → Always P m → ((a : A) → P a → Always Q (k a)) → Always Q (m >>= k)
  binds {Q = Q} {m} {k} h g = record { so = λ t r. subst (λ s. Q s.answer) (sym (run_bind t r m k)) ((g _ (h.so t r)).so t _) }

  -- Behind any reading.
  behind : {B : Type 0} (m : Look B) {k : B → Look A} → ((b : B) → Always P (k b)) → Always P (m >>= k)
  behind m {k} g = record { so = λ t r. subst (λ s. P s.answer) (sym (run_bind t r m k)) ((g _).so t _) }

  tests : (b : Bool) {x y : Look A} → (b ≡ true → Always P x) → Always P y → Always P (cond b x y)
  tests true f y = f refl
  tests false f y = y

  chooses : {B : Type 0} (o : Option B) {x : Look A} {f : B → Look A} → Always P x → ((b : B) → Always P (f b)) → Always P (maybe o x f)
  chooses None x f = x
  chooses (Some b) x f = f b

pub both_true : {a b : Bool} → a ≡ true → b ≡ true → a && b ≡ true
both_true p q = rw (p, q)

pub all_append : (p : ℕ → Bool) (x y : List ℕ) → all_of p x ≡ true → all_of p y ≡ true → all_of p (x ++ y) ≡ true
all_append p [] y h g = g
all_append p (c ∷ x) y h g = let a = both (p c) (all_of p x) h in both_true a.0 (all_append p x y a.1 g)

-- A number has digits only.
abbrev pub is_plain : Read → Bool
is_plain (token k v) = cond (eqb TokenType.Numeric k) (all_of is_digit (value_cells v)) true
is_plain (refused n c) = true

abbrev PlainRead : Read × ℕ → Type 0
PlainRead r = is_plain r.0 ≡ true

abbrev PlainOutcome : Outcome → Type 0
PlainOutcome o = is_plain o.read ≡ true

gathered : (p : ℕ → Bool) (f i : ℕ) → Always (λ r. all_of p r.0 ≡ true) (gather p f i)
unfolding gather
gathered p zero i = answers refl
gathered p (suc f) i = asks (λ c. chooses c (answers refl) (λ x. tests (p x) (λ h. binds (gathered p f (suc i)) (λ r q. answers (both_true h q))) (answers refl)))

or_zero_lem : (b : List ℕ) → all_of is_digit b ≡ true → all_of is_digit (or_zero b) ≡ true
unfolding is_digit among
or_zero_lem [] h = refl
or_zero_lem (x ∷ b) h = h

digits : (b a : List ℕ) (minus : Bool) (e : List ℕ) → all_of is_digit b ≡ true → all_of is_digit a ≡ true → all_of is_digit e ≡ true → is_plain (numeric b a minus e) ≡ true
digits b a minus e h g q = all_append is_digit (or_zero b ++ a) e (all_append is_digit (or_zero b) a (or_zero_lem b h) g) q

module _ (k : ℕ) where
  exponents : (b a : List ℕ) (i : ℕ) → all_of is_digit b ≡ true → all_of is_digit a ≡ true → Always PlainRead (read_exponent k b a i)
  exponents b a i h g = asks (λ c. tests (is 0x65 c || is 0x45 c)
      (λ _. behind (read_sign (i + 1)) (λ s. binds (gathered is_digit k s.1) (λ e q. answers (digits b a s.0 e.0 h g q))))
      (answers (digits b a false [] h g refl)))

  numbers : (i : ℕ) → Always PlainRead (read_number k i)
  numbers i = binds (gathered is_digit k i) (λ b h. asks (λ c. tests (is 0x2E c)
      (λ _. asks (λ d. tests (holds is_digit d)
      (λ _. binds (gathered is_digit k (b.1 + 1)) (λ a g. exponents b.0 a.0 a.1 h g))
      (answers (digits b.0 [] false [] h refl refl))))
      (exponents b.0 [] b.1 h refl)))

-- A string ends with a token of its type, or without a value.
abbrev is_plain_piece : Piece → Bool
is_plain_piece (char c j) = true
is_plain_piece (stop r j) = is_plain r

abbrev PlainPiece : Piece → Type 0
PlainPiece p = is_plain_piece p ≡ true

pairs : (h i : ℕ) (l : Hex) → PlainPiece (pair_of h i l)
pairs h i (no_digit n c j) = refl
pairs h i (value l) = by_test PlainPiece (is_second_half l) (λ _. refl) (λ _. refl)

second_halves : (h i : ℕ) → Always PlainPiece (read_second_half h i)
second_halves h i = asks (λ u. chooses u (answers refl) (λ x. behind (read_hex (digit_count x) 0 (i + 2)) (λ l. answers (pairs h (i + 2 + digit_count x) l))))

code_points_lem : (i : ℕ) (r : Hex) → Always PlainPiece (read_code_point i r)
code_points_lem i (no_digit n c j) = answers refl
code_points_lem i (value v) = tests (is_first_half v) (λ _. second_halves v i) (tests (is_second_half v || ltb 0x10FFFF v) (λ _. answers refl) (answers refl))

escapes : (c i : ℕ) → Always PlainPiece (read_escape c i)
escapes c i = chooses (plain_escape c) (tests (eqb 0x75 c || eqb 0x55 c) (λ _. behind (read_hex (digit_count c) 0 (i + 2)) (λ r. code_points_lem (i + 2 + digit_count c) r)) (answers refl)) (λ x. answers refl)

pieces : (i : ℕ) (sofar : List ℕ) → Always PlainPiece (read_piece i sofar)
pieces i sofar = asks (λ a. asks (λ b. chooses a (answers refl) (λ x. tests (eqb 0x5C x) (λ _. chooses b (answers refl) (λ y. escapes y i))
    (tests (eqb 0x22 x) (λ _. answers refl) (tests (is_vertical_space x) (λ _. answers refl) (answers refl))))))

on_piece_lem : (p : Piece) {x : ℕ → ℕ → Look (Read × ℕ)} → PlainPiece p → ((c j : ℕ) → Always PlainRead (x c j)) → Always PlainRead (on_piece p x (λ r j. done (r, j)))
on_piece_lem (char c j) h x = x c j
on_piece_lem (stop r j) h x = answers h

strings : (k : ℕ) (sofar : List ℕ) (i : ℕ) → Always PlainRead (read_string k sofar i)
unfolding read_string
strings zero sofar i = answers refl
strings (suc k) sofar i = binds (pieces i sofar) (λ p h. on_piece_lem p h (λ c j. strings k (sofar ++ c ∷ []) j))

-- A name is a token of another type, or refused.
module _ (f : Flags) (is_name : List ℕ → Bool) (start : ℕ) (ps : List Part) (next : Option ℕ) (end : ℕ) where
  all_parts_lem : PlainOutcome (all_parts f is_name start ps next end)
  all_parts_lem = by_test (λ k. is_plain (token k (name_of ps)) ≡ true) (f.type_name && member (new_name (texts ps)) type_names) (λ _. refl)
      (λ _. by_test (λ k. is_plain (token k (name_of ps)) ≡ true) (member (new_name (texts ps)) temporal_names && is 0x28 next) (λ _. refl) (λ _. refl))

  by_prefix_lem : (o : Option (List Part)) → PlainOutcome (by_prefix f is_name start ps next end o)
  by_prefix_lem None = all_parts_lem
  by_prefix_lem (Some qs) = refl

  by_in_lem : (o : Option (List Part)) → PlainOutcome (by_in f is_name start ps next end o)
  by_in_lem (Some []) = refl
  by_in_lem (Some (q ∷ qs)) = refl
  by_in_lem None = by_test PlainOutcome (is 0x3A next) (λ _. refl) (λ _. by_prefix_lem (longest (is_found f is_name) ps (length ps)))

  cut : PlainOutcome (cut_name f is_name start ps next end)
  cut = by_test PlainOutcome (starts_with (codes "item") ps) (λ _. refl) (λ _. by_in_lem (cond f.till_in (before_in ps) None))

-- Words and symbols.
abbrev is_plain_row : Row → Bool
is_plain_row r = is_plain (token r.type r.value)

rows : (k : ℕ) (rs : List Row) (f : Flags) (w : List ℕ) (i : ℕ) {x : Look Outcome} → all_of is_plain_row rs ≡ true → Always PlainOutcome x → Always PlainOutcome (first_of k rs f w i x)
unfolding first_of
rows k [] f w i s o = o
rows k (r ∷ rs) f w i s o =
    let a = both (is_plain_row r) _ s in
    tests (taken r.when f && leads r.word w) (λ _. behind (is_followed k r.follow w (length r.word) i) (λ ok. tests ok (λ _. answers a.0) (rows k rs f w i a.1 o))) (rows k rs f w i a.1 o)

module _ (k : ℕ) (f : Flags) (is_name : List ℕ → Bool) (w : List ℕ) (i : ℕ) where
  other_cases_lem : Always PlainOutcome (other_cases k f is_name w i)
  other_cases_lem = tests (is_digit (get_or w 0 0)) (λ _. binds (numbers k i) (λ r q. answers q))
      (tests (is_name_start (get_or w 0 0)) (λ _. behind (walk k k i) (λ r. asks (λ next. answers (cut f is_name i r.0 next r.1))))
      (tests (same w (codes "            ")) (λ _. answers refl) (answers refl)))

  all-cases : Always PlainOutcome (cases k f is_name w i)
  unfolding words symbols
  all-cases = rows k words f w i refl (tests (eqb 0x2E (get_or w 0 0) && is_digit (get_or w 1 0)) (λ _. binds (numbers k i) (λ r q. answers q))
      (tests (eqb 0x22 (get_or w 0 0)) (λ _. binds (strings k [] (i + 1)) (λ r q. answers q)) (rows k symbols f w i refl other_cases_lem)))

tokens : (k : ℕ) (is_name : List ℕ → Bool) (f : Flags) → Always PlainOutcome (token_with k is_name f)
unfolding token_with
tokens k is_name f = behind (skip k) (λ i. behind (window 12 i) (λ w. binds (all-cases k f is_name w i) (λ o q. answers q)))

pub plain_token : (is_name : List ℕ → Bool) (f : Flags) (t : List ℕ) → is_plain (run t (read_token is_name f)).answer.read ≡ true
plain_token is_name f t = (tokens _ is_name f).so t 0
