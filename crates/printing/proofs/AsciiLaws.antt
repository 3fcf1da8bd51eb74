-- All that is printed is ASCII: digits, the letters of its words, and a number's own digits.
use mathlib.Core.Path.{◌≡◌, refl}
use mathlib.Core.Bool.{Bool, true, false, cond, false≢true}
use mathlib.Core.List.{List, [], ◌∷◌, ◌++◌}
use Prim.Native.String.{String}
use Prim.Native.Nat.{ℕ, zero, suc, ◌+◌, ◌/◌, ◌%◌, ◌≤◌, ◌<◌}
use native.Mathlib.Nat.{mod-lt, not-suc-le-zero}
use native.Mathlib.Omega.{arith}
use lib.Dec.{ltb, leb, eqb}
use borrow.Author.Tests.{ltb-true, lt-ltb, leb-true}
use lib.ListN.{length, get_or, take, drop}
use Rattle.reading.specs.Cells.{is_one_of}
use Rattle.reading.specs.Codes.{codes}
use Rattle.reading.proofs.Test.{by_test, both, either, below, all_of}
use Rattle.text.specs.Limits.{max_chars}
use Rattle.text.specs.Refusals.{too_long}
use Rattle.text.specs.Ranges.{to, within, among}
use Rattle.text.specs.Classes.{is_digit}
use Rattle.text.specs.Utf8.{Opened, opened, refused, open_bytes}
use Rattle.scope.specs.Entries as entries
use Rattle.scope.specs.Keys.{is_name}
use Rattle.lexer.specs.Flags.{Flags, no_flags}
use Rattle.lexer.specs.Read as read
use Rattle.lexer.specs.Read.{Read, text_types}
use Rattle.lexer.specs.Token.{read_token}
use Rattle.lexer.specs.TokenType
use Rattle.runs.specs.Item.{Item, item, ends_run}
use Rattle.runs.specs.Run.{Reader, seen, item_at, items, run_items}
use Rattle.runs.specs.Print.{digit, digits_in, decimal, hexadecimal, joined_by_comma, number_field, has_carry, value_field, line, lines, refused_line, printed_of, printed}
use Rattle.printing.proofs.PlainLaws.{both_true, all_append, is_plain, plain_token}

abbrev is_ascii : ℕ → Bool
is_ascii c = ltb c 0x80

record Ascii (l : List ℕ) : Type 0 where
  all : all_of is_ascii l ≡ true

ascii : {l : List ℕ} → all_of is_ascii l ≡ true → Ascii l
ascii h = record { all = h }

word : (s : String) → all_of is_ascii (codes s) ≡ true → Ascii (codes s)
word s h = ascii h

and : {x y : List ℕ} → Ascii x → Ascii y → Ascii (x ++ y)
and {x} {y} h g = ascii (all_append is_ascii x y h.all g.all)

digit_ascii : (c : ℕ) → is_digit c ≡ true → is_ascii c ≡ true
unfolding is_digit among
digit_ascii c h = either (within (to 0x30 0x39) c) h (λ g. lt-ltb c 0x80 (let l = leb-true c 0x39 (both (leb 0x30 c) _ g).1 in omega arith)) (λ g. absurd (false≢true g))

-- Digits, and the parts of a list.
all_digits : (l : List ℕ) → all_of is_digit l ≡ true → Ascii l
all_digits [] g = ascii refl
all_digits (c ∷ l) g = let a = both (is_digit c) (all_of is_digit l) g in ascii (both_true (digit_ascii c a.0) (all_digits l a.1).all)

taken : (n : ℕ) (l : List ℕ) → Ascii l → Ascii (take n l)
taken zero l h = ascii refl
taken (suc n) [] h = ascii refl
taken (suc n) (c ∷ l) h = let a = both (is_ascii c) (all_of is_ascii l) h.all in ascii (both_true a.0 (taken n l (ascii a.1)).all)

dropped : (n : ℕ) (l : List ℕ) → Ascii l → Ascii (drop n l)
dropped zero l h = h
dropped (suc n) [] h = ascii refl
dropped (suc n) (c ∷ l) h = dropped n l (ascii (both (is_ascii c) (all_of is_ascii l) h.all).1)

-- What is printed of numbers.
digits_in_lem : (base : ℕ) → 0 < base → base ≤ 16 → (k n : ℕ) (ds : List ℕ) → Ascii ds → Ascii (digits_in base k n ds)
unfolding digits_in
digits_in_lem base p l zero n ds h = h
digits_in_lem base p l (suc k) n ds h =
    let m : n % base < base = mod-lt n p in
    let a : Ascii (digit (n % base) ∷ ds) = ascii (both_true (below (λ d. is_ascii (digit d)) 16 refl (n % base) (omega arith)) h.all) in
    by_test Ascii (ltb n base) (λ _. a) (λ _. digits_in_lem base p l k (n / base) (digit (n % base) ∷ ds) a)

ten : (n : ℕ) → Ascii (decimal n)
ten n = digits_in_lem 10 (omega arith) (omega arith) 10 n [] (ascii refl)

sixteen : (n : ℕ) → Ascii (hexadecimal n)
sixteen n = digits_in_lem 16 (omega arith) (omega arith) 10 n [] (ascii refl)

points : (cs : List ℕ) → Ascii (joined_by_comma cs)
points [] = ascii refl
points (c ∷ []) = sixteen c
points (c ∷ d ∷ cs) = and (and (sixteen c) (word "," refl)) (points (d ∷ cs))

one_of_two : (b : Bool) {x y : List ℕ} → Ascii x → Ascii y → Ascii (cond b x y)
one_of_two true h g = h
one_of_two false h g = g

number : (before after sign : ℕ) (v : List ℕ) → Ascii v → Ascii (number_field before after sign v)
number before after sign v h =
    and (and (and (and (and (and (taken before v h) (word "/" refl)) (taken after (drop before v) (dropped before v h))) (word "/" refl)) (one_of_two (eqb sign 1) (word "-" refl) (word "+" refl))) (word "/" refl)) (dropped (before + after) v h)

-- An item whose value, where it is a number's, is digits.
abbrev is_plain_item : Item → Bool
is_plain_item i = cond i.is_refusal true (cond (eqb TokenType.Numeric i.number) (all_of is_digit i.value) true)

plain-item : (r : Read) (p : ℕ) (f : Flags) (q : ℕ) → is_plain r ≡ true → is_plain_item (item r p f q) ≡ true
plain-item (read.token k v) p f q h = h
plain-item (read.refused n c) p f q h = h

value : (i : Item) → is_plain_item i ≡ true → Ascii (value_field i)
value i h = by_test Ascii i.is_refusal
    (λ _. one_of_two (has_carry i.number) (sixteen i.extra) (word "-" refl))
    (λ r. by_test Ascii (eqb TokenType.Numeric i.number)
    (λ n. number i.lengths.before i.lengths.after i.extra i.value (all_digits i.value (rw (r, n) at h)))
    (λ _. one_of_two (is_one_of text_types i.number) (and (word "=" refl) (points i.value))
    (one_of_two (eqb TokenType.Boolean i.number) (one_of_two (eqb i.extra 1) (word "true" refl) (word "false" refl)) (word "-" refl))))

one_line : (n : ℕ) (i : Item) → is_plain_item i ≡ true → Ascii (line n i)
one_line n i h =
    and (and (and (and (and (and (and (and (and (and (ten n) (word " " refl)) (one_of_two i.is_refusal (word "R" refl) (ascii refl))) (ten i.number)) (word " " refl)) (ten i.position)) (word " " refl)) (ten i.reach)) (word " " refl)) (value i h)) (word "\n" refl)

all_lines : (n : ℕ) (is : List Item) → all_of is_plain_item is ≡ true → Ascii (lines n is)
all_lines n [] h = ascii refl
all_lines n (i ∷ is) h = let a = both (is_plain_item i) (all_of is_plain_item is) h in and (one_line n i a.0) (all_lines (suc n) is a.1)

refused_line_lem : (n p : ℕ) → Ascii (refused_line n p)
refused_line_lem n p = and (and (and (and (word "R" refl) (ten n)) (word " " refl)) (ten p)) (word "\n" refl)

-- The items of a run.
module _ (tok : Reader) (plain : (t : List ℕ) (f : Flags) → is_plain (seen tok t f).answer.read ≡ true) where
  items-plain : (n : ℕ) (t : List ℕ) (p : ℕ) (f : Flags) → all_of is_plain_item (items tok n t p f) ≡ true
  unfolding items
  items-plain zero t p f = refl
  items-plain (suc n) t p f =
      let i = item_at tok t p f in
      both_true (plain-item (seen tok (drop p t) f).answer.read i.position i.flags i.reach (plain (drop p t) f))
      (by_test (λ is. all_of is_plain_item is ≡ true) (ends_run i) {x = []} (λ _. refl) (λ _. items-plain n t i.position i.flags))

  run-plain : (f : Flags) (t : List ℕ) → all_of is_plain_item (run_items tok TokenType.StartExpression f t) ≡ true
  run-plain f t = items-plain (length t + 1) t 0 f

opened_ascii : (o : Opened) → Ascii (printed_of o)
opened_ascii (opened t) = all_lines 0 (run_items (read_token (is_name entries.opened)) TokenType.StartExpression no_flags t) (run-plain (read_token (is_name entries.opened)) (λ t f. plain_token (is_name entries.opened) f t) no_flags t)
opened_ascii (refused n p) = refused_line_lem n p

printed_ascii : (bytes : List ℕ) → Ascii (printed bytes)
printed_ascii bytes = one_of_two (ltb 2048 (length bytes)) (refused_line_lem too_long 0) (opened_ascii (open_bytes bytes max_chars))

one_byte : (l : List ℕ) → Ascii l → (i : ℕ) → i < length l → get_or l i 0 < 256
one_byte [] h i g = absurd (not-suc-le-zero g)
one_byte (c ∷ l) h zero g = let a = ltb-true c 0x80 (both (is_ascii c) (all_of is_ascii l) h.all).0 in omega arith
one_byte (c ∷ l) h (suc i) g = one_byte l (ascii (both (is_ascii c) (all_of is_ascii l) h.all).1) i (omega arith)

-- A byte holds each character of all that is printed.
pub printed_bytes : (bytes : List ℕ) (i : ℕ) → i < length (printed bytes) → get_or (printed bytes) i 0 < 256
printed_bytes bytes i h = one_byte (printed bytes) (printed_ascii bytes) i h
