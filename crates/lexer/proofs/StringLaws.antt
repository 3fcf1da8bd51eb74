-- Each way through a string's inside, followed look by look with its reach, which a character may leave open by one.
use Rattle.std.specs.Prelude.{None, Some, Result, Ok, Err}
use Rattle.std.specs.List.{FoldsTo}
use Rattle.std.proofs.lemmas.Fn.{FoldsTo-push, chained_keeps}
use mathlib.Core.Path.{◌≡◌, refl, sym, ◌∙◌, ap, subst}
use mathlib.Core.Bool.{false≢true, Bool, true, false, ◌||◌, not}
use mathlib.Core.List.{List, [], ◌∷◌, ◌++◌}
use Prim.Native.Nat.{ℕ, zero, suc, ◌+◌, ◌-◌, ◌*◌, ◌≤◌, ◌<◌, max}
use native.Mathlib.Omega.{arith}
use lib.ListN.{length, get_or, set, length-append, length-set}
use lib.Dec.{eqb}
use borrow.Author.Tests.{lt-ltb, le-ltb, le-leb, lt-leb, eq-eqb, ne_eqb}
use Rattle.reading.specs.Look.{Look, done, cell_at}
use Rattle.reading.specs.Goes.{got, Goes}
use Rattle.reading.specs.Slices.{front}
use Rattle.reading.proofs.Cell.{cell_in, cell_out}
use Rattle.reading.proofs.Front.{front_snoc}
use Rattle.reading.proofs.Going.{Stands, begins, asks, takes_on, finds, goes_on_lem}
use Rattle.text.specs.Limits.{max_chars}
use Rattle.text.specs.Classes.{is_vertical_space}
use Rattle.text.specs.Hex.{hex_value}
use Rattle.text.proofs.HexLaws.{hex_small}
use Rattle.lexer.specs.Read.{Read, token, refused, chars}
use Rattle.lexer.specs.Text as spec
use Rattle.lexer.specs.Token.{fuel}
use Rattle.lexer.specs.TokenType
use Rattle.text.specs.RefusalNumber.{number_of}
use Rattle.text.specs.declared.refusal.Refusal.{Refusal}
use Rattle.text.specs.declared.refusal.Refusal.TheVariants.{NoHexDigit, EndAtHexDigit, NoScalarValue, NoSecondHalf, EndAtSecondHalf}
use Rattle.lexer.specs.declared.string.Broken.{Broken}
use Rattle.lexer.specs.declared.string.Piece.{Piece}
use Rattle.lexer.specs.declared.string.Piece.TheVariants.{Char, Quote, LineEnd, TextEnd}
use Rattle.lexer.specs.declared.string.Literal.{Literal}
use Rattle.lexer.specs.declared.string.Literal.TheVariants.{Chars, LineEnds, TextEnds}
use Rattle.lexer.specs.Pieces.{is_plain, Inside, is_string, Handed, Written, hex_of, hex_reach, Hexed, piece_of, least_end, end_of, Pieced, At}

abbrev Answer : Type 0
Answer = Result Piece Broken

abbrev pub broken : Refusal → ℕ → ℕ → ℕ → Broken
broken m k j q = record { refusal = m; carry = k; place = j; reach = q }

none_of : (a b c : Bool) → not (a || b || c) ≡ true → (a ≡ false) × (b ≡ false) × (c ≡ false)
none_of true b c e = absurd (false≢true e)
none_of false true c e = absurd (false≢true e)
none_of false false true e = absurd (false≢true e)
none_of false false false e = (refl, refl, refl)

-- what i digits stay below
pub cap : ℕ → ℕ
cap zero = 1
cap (suc i) = 16 * cap i

cap_suc : (n l : ℕ) → 0 < l → l ≤ n → cap (n - (l - 1)) ≡ 16 * cap (n - l)
unfolding cap
cap_suc n l h k = let e : n - (l - 1) ≡ suc (n - l) = omega arith in rw e

cap_up : (i j : ℕ) → cap i ≤ cap (j + i)
unfolding cap
cap_up i zero = let e : 0 + i ≡ i = omega arith in rw e (omega arith)
cap_up i (suc j) = let e : suc j + i ≡ suc (j + i) = omega arith in rw e (omega (arith, cap_up i j))

-- six digits and less stay below 2 ^ 24
pub cap_six : (i : ℕ) → i ≤ 6 → cap i ≤ 16777216
unfolding cap
cap_six i h = let e : 6 - i + i ≡ 6 = omega arith in rw e at (cap_up i (6 - i))

-- the loop over `count` digits from `from` on stands at `at`
pub record HexAt (t : List ℕ) (from count v at left : ℕ) : Type 0 where
  pub sum : at + left ≡ from + count
  pub few : left ≤ count
  pub within : at ≤ length t
  pub small : v < cap (count - left)
  pub stands : Stands t from (spec.read_hex count 0 from) (spec.read_hex left v at) at

pub hex_start : (t : List ℕ) (from count : ℕ) → from ≤ length t → HexAt t from count 0 from (from + count - from)
unfolding cap
hex_start t from count h =
    let z : count - count ≡ 0 = omega arith in
    let e : from + count - from ≡ count = omega arith in
    rw e (record { sum = refl; few = omega arith; within = h; small = rw z (omega arith); stands = begins t from (spec.read_hex count 0 from) })

module _ {t : List ℕ} {from count v at left : ℕ} (k : HexAt t from count v at left) where
  pub hex_value_lem : left ≤ 0 → Hexed t from count (Ok v)
  unfolding spec.read_hex
  hex_value_lem h =
      let z : left ≡ 0 = omega arith in
      let e : at ≡ from + count = let s = k.sum in omega arith in
      let w = k.within in
      record { from = omega arith; within = omega arith; goes = rw e at (finds (rw z at k.stands)) }

  module _ (h : 0 < left) where
    one : Stands t from (spec.read_hex count 0 from) (spec.read_hex (suc (left - 1)) v at) at
    one = let e : left ≡ suc (left - 1) = omega arith in rw e at k.stands

    pub hex_ends : length t ≤ at → Hexed t from count (Err (broken EndAtHexDigit 0 at (at + 1)))
    unfolding spec.read_hex
    hex_ends l =
        let s = k.sum in let f = k.few in
        record { from = omega arith; within = k.within; goes = finds (rw (cell_out t at l) at (asks one (at + 1) (omega arith))) }

    module _ (l : at < length t) {x : ℕ} (c : x ≡ get_or t at 0) where
      pub hex_bad : None ≡ hex_value x → Hexed t from count (Err (broken NoHexDigit x at (at + 1)))
      unfolding spec.read_hex
      hex_bad e =
          let s = k.sum in let f = k.few in
          record { from = omega arith; within = k.within; goes = finds (rw (← e) at (rw (cell_in t at l, ← c) at (asks one (at + 1) (omega arith)))) }

      pub hex_more : {d : ℕ} → Some d ≡ hex_value x → HexAt t from count (v * 16 + d) (at + 1) (left - 1)
      unfolding spec.read_hex
      hex_more {d} e =
          let s = k.sum in let f = k.few in
          let g = hex_small x d (sym e) in
          record {
            sum = omega arith;
            few = omega arith;
            within = omega arith;
            small = let c = k.small in omega (arith, cap_suc count left h f);
            stands = rw (← e) at (rw (cell_in t at l, ← c) at (asks one (at + 1) (omega arith)));
          }

-- an answer that ends the reading, at j and with the reach q
stopped : {t : List ℕ} {r : ℕ} {m : Look spec.Piece} {i : ℕ} (b : Broken) → i ≤ b.place → b.place ≤ length t → Goes t r m (spec.stop (refused (number_of b.refusal) b.carry) b.place) b.reach → Pieced t r (λ _. m) i (Err b)
stopped b h l g = record { reach = b.reach; low = omega arith; high = omega arith; from = h; within = l; goes = λ _. g }

read_one : {t : List ℕ} {r : ℕ} {m : Look spec.Piece} {i : ℕ} (c j q : ℕ) → i < j → j ≤ length t → q ≤ j + 1 → Goes t r m (spec.char c j) q → Pieced t r (λ _. m) i (Ok (Char c j))
read_one c j q h l u g = record { reach = q; low = omega arith; high = u; from = omega arith; within = l; goes = λ _. g }

module _ (t : List ℕ) (h i : ℕ) where
  abbrev Second : Answer → Type 0
  Second p = Pieced t i (λ _. spec.read_second_half h i) i p

  pub second_short : length t ≤ i + 1 → i ≤ length t → Second (Err (broken EndAtSecondHalf 0 i (i + 2)))
  second_short l g = stopped _ (omega arith) g (finds (rw (cell_out t (i + 1) l) at (asks (begins t i (spec.read_second_half h i)) (i + 2) (omega arith))))

  module _ (l : i + 1 < length t) {x : ℕ} (c : x ≡ get_or t (i + 1) 0) {n : ℕ} (e : n ≡ spec.digit_count x) where
    digits : {r : Result ℕ Broken} → Hexed t (i + 2) n r → Stands t i (spec.read_second_half h i) (done (spec.pair_of h (i + 2 + n) (hex_of r))) (hex_reach (i + 2) n r)
    digits g = takes_on g.goes _ (rw (← e) at (rw (cell_in t (i + 1) l, ← c) at (asks (begins t i (spec.read_second_half h i)) (i + 2) (omega arith))))

    pub second_bad : {b : Broken} → Hexed t (i + 2) n (Err b) → Second (Err b)
    second_bad g = stopped _ (let f = g.from in omega arith) g.within (finds (digits g))

    module _ {v : ℕ} (g : Hexed t (i + 2) n (Ok v)) where
      pub second_low_lem : v < 0xDC00 → Second (Err (broken NoSecondHalf v (i + 2 + n) (i + 2 + n)))
      second_low_lem u = stopped _ (omega arith) g.within (finds (rw (lt-leb 0xDC00 v u) at (digits g)))

      pub second_high_lem : 0xDC00 ≤ v → 0xDFFF < v → Second (Err (broken NoSecondHalf v (i + 2 + n) (i + 2 + n)))
      second_high_lem u w = stopped _ (omega arith) g.within (finds (rw (le-leb 0xDC00 v u, lt-leb v 0xDFFF w) at (digits g)))

      pub second_one : 0xDC00 ≤ v → v ≤ 0xDFFF → Second (Ok (Char (0x10000 + (h - 0xD800) * 0x400 + (v - 0xDC00)) (i + 2 + n)))
      second_one u w = read_one _ (i + 2 + n) (i + 2 + n) (omega arith) g.within (omega arith) (finds (rw (le-leb 0xDC00 v u, le-leb v 0xDFFF w) at (digits g)))

earlier : (i j e : ℕ) (p : Answer) → i ≤ j → least_end j p ≤ e → least_end i p ≤ e
earlier i j e (Ok (Char c k)) h l = omega arith
earlier i j e (Ok (Quote k)) h l = omega arith
earlier i j e (Ok (LineEnd k)) h l = omega arith
earlier i j e (Ok (TextEnd k)) h l = omega arith
earlier i j e (Err b) h l = omega arith

-- a reading that has come to another gives what that gives
onward : {t : List ℕ} {o r : ℕ} {w : List ℕ → Look spec.Piece} {m : Look spec.Piece} {p : Answer} (i j : ℕ) → ((s : List ℕ) → Stands t o (w s) m r) → Pieced t r (λ _. m) j p → i ≤ j → Pieced t o w i p
onward {p = p} i j g k h = record { reach = k.reach; low = k.low; high = k.high; from = earlier i j (end_of p) p h k.from; within = k.within; goes = λ s. goes_on_lem (g s) (k.goes s) }

module _ (t : List ℕ) (i n : ℕ) (some : 0 < n) where
  pointed : {r : Result ℕ Broken} → Hexed t i n r → Stands t i (spec.read_unicode n i) (spec.read_code_point (i + n) (hex_of r)) (hex_reach i n r)
  pointed g = takes_on g.goes _ (begins t i (spec.read_unicode n i))

  abbrev Point : Answer → Type 0
  Point p = Pieced t i (λ _. spec.read_unicode n i) i p

  pub point_bad : {b : Broken} → Hexed t i n (Err b) → Point (Err b)
  point_bad g = stopped _ g.from g.within (finds (pointed g))

  module _ {v : ℕ} (g : Hexed t i n (Ok v)) where
    in_text_lem : i + n ≤ length t
    in_text_lem = g.within

    pub point_low : v < 0xD800 → Point (Ok (Char v (i + n)))
    point_low a = read_one v (i + n) (i + n) (omega arith) in_text_lem (omega arith)
        (finds (rw (lt-leb 0xD800 v a, lt-leb 0xDC00 v (omega arith), le-ltb 0x10FFFF v (omega arith)) at (pointed g)))

    pub point_second : 0xD800 ≤ v → v ≤ 0xDBFF → {p : Answer} → Pieced t (i + n) (λ _. spec.read_second_half v (i + n)) (i + n) p → Point p
    point_second a b k = onward i (i + n) (λ _. rw (le-leb 0xD800 v a, le-leb v 0xDBFF b) at (pointed g)) k (omega arith)

    pub point_half : 0xDBFF < v → v ≤ 0xDFFF → Point (Err (broken NoScalarValue v (i + n) (i + n)))
    point_half a b = stopped _ (omega arith) in_text_lem
        (finds (rw (le-leb 0xD800 v (omega arith), lt-leb v 0xDBFF a, le-leb 0xDC00 v (omega arith), le-leb v 0xDFFF b) at (pointed g)))

    pub point_high : 0xDFFF < v → 0x10FFFF < v → Point (Err (broken NoScalarValue v (i + n) (i + n)))
    point_high a b = stopped _ (omega arith) in_text_lem
        (finds (rw (le-leb 0xD800 v (omega arith), lt-leb v 0xDBFF (omega arith), le-leb 0xDC00 v (omega arith), lt-leb v 0xDFFF a, lt-ltb 0x10FFFF v b) at (pointed g)))

    pub point-one : 0xDFFF < v → v ≤ 0x10FFFF → Point (Ok (Char v (i + n)))
    point-one a b = read_one v (i + n) (i + n) (omega arith) in_text_lem (omega arith)
        (finds (rw (le-leb 0xD800 v (omega arith), lt-leb v 0xDBFF (omega arith), le-leb 0xDC00 v (omega arith), lt-leb v 0xDFFF a, le-ltb 0x10FFFF v b) at (pointed g)))

module _ (t : List ℕ) (c i : ℕ) (room : i + 2 ≤ length t) where
  abbrev Escape : Answer → Type 0
  Escape q = Pieced t (i + 2) (λ _. spec.read_escape c i) i q

  pub escape_plain : {p : ℕ} → Some p ≡ spec.plain_escape c → Escape (Ok (Char p (i + 2)))
  escape_plain {p} e = read_one p (i + 2) (i + 2) (omega arith) (omega arith) (omega arith) (rw (← e) (finds (begins t (i + 2) (done (spec.char p (i + 2))))))

  module _ (e : None ≡ spec.plain_escape c) {b : Bool} (u : b ≡ eqb 0x75 c || eqb 0x55 c) where
    pub escape_unicode : b ≡ true → {n : ℕ} → n ≡ spec.digit_count c → {q : Answer} → Pieced t (i + 2) (λ _. spec.read_unicode n (i + 2)) (i + 2) q → Escape q
    escape_unicode f {n} g {q} k = onward i (i + 2) (λ _. rw (← e, sym u ∙ f, sym g) (begins t (i + 2) (spec.read_unicode n (i + 2)))) k (omega arith)

    pub escape_none : b ≡ false → Escape (Ok (Char 0x5C (i + 1)))
    escape_none f = read_one 0x5C (i + 1) (i + 2) (omega arith) (omega arith) (omega arith) (rw (← e, sym u ∙ f) (finds (begins t (i + 2) (done (spec.char 0x5C (i + 1))))))

module _ (t : List ℕ) (i : ℕ) where
  -- whatever the reach so far, below i + 2
  both_looked : (r : ℕ) → r ≤ i + 1 → (s : List ℕ) → Stands t r (spec.read_piece i s) (spec.piece_of i s (cell_at t i) (cell_at t (i + 1))) (i + 2)
  both_looked r h s = asks (asks (begins t r (spec.read_piece i s)) (max r (i + 1)) refl) (i + 2) (omega arith)

  pub piece_eof : length t ≤ i → i ≤ length t → At t i (Ok (TextEnd i))
  piece_eof l h r u = record { reach = i + 2; low = omega arith; high = omega arith; from = omega arith; within = h; goes = λ s. finds (rw (cell_out t i l) at (both_looked r u s)) }

  module _ (l : i < length t) {x : ℕ} (c : x ≡ get_or t i 0) where
    there_looked : (r : ℕ) → r ≤ i + 1 → (s : List ℕ) → Stands t r (spec.read_piece i s) (spec.piece_of i s (Some x) (cell_at t (i + 1))) (i + 2)
    there_looked r h s = rw (cell_in t i l, ← c) at (both_looked r h s)

    module _ (e : 0x5C ≡ x) where
      pub piece_lone : length t ≤ i + 1 → At t i (Ok (Char 0x5C (i + 1)))
      piece_lone k r u = record { reach = i + 2; low = omega arith; high = omega arith; from = omega arith; within = omega arith; goes = λ s. finds (rw (eq-eqb 0x5C x e, cell_out t (i + 1) k) at (there_looked r u s)) }

      pub piece_escape : i + 1 < length t → {y : ℕ} → y ≡ get_or t (i + 1) 0 → {p : Answer} → Pieced t (i + 2) (λ _. spec.read_escape y i) i p → At t i p
      piece_escape k d q r u = onward i i (λ s. rw (eq-eqb 0x5C x e, cell_in t (i + 1) k, ← d) at (there_looked r u s)) q (omega arith)

    module _ (e : 0x5C ≡ x → ⊥) where
      pub piece_ended : 0x22 ≡ x → At t i (Ok (Quote (i + 1)))
      piece_ended f r u = record { reach = i + 2; low = omega arith; high = omega arith; from = omega arith; within = omega arith; goes = λ s. finds (rw (ne_eqb 0x5C x e, eq-eqb 0x22 x f) at (there_looked r u s)) }

      module _ (f : 0x22 ≡ x → ⊥) {b : Bool} (g : b ≡ is_vertical_space x) where
        pub piece_undef : b ≡ true → At t i (Ok (LineEnd i))
        piece_undef h r u = record { reach = i + 2; low = omega arith; high = omega arith; from = omega arith; within = omega arith; goes = λ s. finds (rw (ne_eqb 0x5C x e, ne_eqb 0x22 x f, sym g ∙ h) at (there_looked r u s)) }

        pub piece_one : b ≡ false → At t i (Ok (Char x (i + 1)))
        piece_one h r u = record { reach = i + 2; low = omega arith; high = omega arith; from = omega arith; within = omega arith; goes = λ s. finds (rw (ne_eqb 0x5C x e, ne_eqb 0x22 x f, sym g ∙ h) at (there_looked r u s)) }

    -- A character that is none of those stands for itself.
    pub plain_piece : {b : Bool} → is_plain x ≡ b → b ≡ true → At t i (Ok (Char x (i + 1)))
    plain_piece p f r u = record { reach = i + 2; low = omega arith; high = omega arith; from = omega arith; within = omega arith; goes = λ s. let z = none_of (eqb 0x5C x) (eqb 0x22 x) (is_vertical_space x) (p ∙ f) in finds (rw (z.0, z.1, z.2) at (there_looked r u s)) }

pub at_ok : (t : List ℕ) (i : ℕ) {p x : Piece} → At t i (Ok p) → p ≡ x → At t i (Ok x)
at_ok t i g e = subst (λ y. At t i (Ok y)) e g

-- the loop over a string's inside, which began at `from`, stands at i and has counted n
pub record Walking (t : List ℕ) (from i n : ℕ) : Type 0 where
  pub turns : ℕ
  pub sofar : List ℕ
  pub reach : ℕ
  pub enough : length t - i < turns
  pub size : n ≡ length sofar
  pub near : reach ≤ i + 1
  pub on : from + n ≤ i
  pub within : i ≤ length t
  pub stands : Stands t 0 (spec.read_string fuel [] from) (spec.read_string turns sofar i) reach

pub walking_none : (t : List ℕ) (i : ℕ) → i ≤ length t → length t ≤ max_chars → Walking t i i 0
walking_none t i h l = record {
  turns = fuel;
  sofar = [];
  reach = 0;
  enough = omega arith;
  size = refl;
  near = omega arith;
  on = omega arith;
  within = h;
  stands = begins t 0 (spec.read_string fuel [] i);
}

inside_step : {t : List ℕ} {o r q : ℕ} {w : Look (Read × ℕ)} (f : ℕ) (sofar : List ℕ) (i : ℕ) {x : spec.Piece} → Stands t o w (spec.read_string (suc f) sofar i) r → Goes t r (spec.read_piece i sofar) x q → Stands t o w (spec.on_piece x (λ c j. spec.read_string f (sofar ++ c ∷ []) j) (λ y j. done (y, j))) q
unfolding spec.read_string
inside_step f sofar i s g = takes_on g _ s

module _ {t : List ℕ} {from i n : ℕ} (k : Walking t from i n) where
  met : {x : Answer} (b : Pieced t k.reach (λ s. spec.read_piece i s) i x) → Stands t 0 (spec.read_string fuel [] from) (spec.on_piece (piece_of k.sofar x) (λ c j. spec.read_string (k.turns - 1) (k.sofar ++ c ∷ []) j) (λ y j. done (y, j))) b.reach
  met b =
      let e : k.turns ≡ suc (k.turns - 1) = let n = k.enough in omega arith in
      inside_step (k.turns - 1) k.sofar i (subst (λ f. Stands t 0 (spec.read_string fuel [] from) (spec.read_string f k.sofar i) k.reach) e k.stands) (b.goes k.sofar)

  pub walking_more : {c j : ℕ} → At t i (Ok (Char c j)) → Walking t from j (n + 1)
  walking_more {c} {j} g =
      let b = g k.reach k.near in
      let l = b.from in let u = k.on in let v = k.enough in let w = k.size in let x = b.within in
      record {
        turns = k.turns - 1;
        sofar = k.sofar ++ c ∷ [];
        reach = b.reach;
        enough = omega arith;
        size = rw length-append (omega arith);
        near = b.high;
        on = omega arith;
        within = b.within;
        stands = met b;
      }

  pub walking_ended : {j : ℕ} → At t i (Ok (Quote j)) → Inside t from (Ok (Chars n j))
  walking_ended {j} g =
      let b = g k.reach k.near in
      let l = b.from in let u = k.on in let v = b.low in let w = b.high in
      let q : b.reach ≡ j + 1 = omega arith in
      record { cells = k.sofar; count = k.size; from = omega arith; within = b.within; sees = rw q at (finds (met b)) }

  pub walking_undef : {j : ℕ} → At t i (Ok (LineEnd j)) → Inside t from (Ok (LineEnds j))
  walking_undef {j} g =
      let b = g k.reach k.near in
      let l = b.from in let u = k.on in let v = b.low in let w = b.high in
      let q : b.reach ≡ j + 2 = omega arith in
      record { cells = []; count = refl; from = omega arith; within = b.within; sees = rw q at (finds (met b)) }

  pub walking_over : {j : ℕ} → At t i (Ok (TextEnd j)) → Inside t from (Ok (TextEnds j))
  walking_over {j} g =
      let b = g k.reach k.near in
      let l = b.from in let u = k.on in let v = b.low in let w = b.high in
      let q : b.reach ≡ j + 2 = omega arith in
      record { cells = []; count = refl; from = omega arith; within = b.within; sees = rw q at (finds (met b)) }

  pub walking_refused : {x : Broken} → At t i (Err x) → Inside t from (Err x)
  walking_refused {x} g =
      let b = g k.reach k.near in
      let l = b.from in let u = k.on in let v = b.low in let w = b.high in
      let q : b.reach ≡ x.reach = omega arith in
      record { cells = []; count = refl; from = omega arith; within = b.within; sees = rw q at (finds (met b)) }

  pub walking_on : {c j : ℕ} → At t i (Ok (Char c j)) → (i < j) × (j ≤ length t)
  walking_on g = let b = g k.reach k.near in let l = b.from in (omega arith, b.within)

abbrev kind : Read → Bool
kind (token k v) = eqb k 288
kind (refused m k) = false

same_chars : {x y : List ℕ} {i j q r : ℕ} → got {A = Read × ℕ} (token TokenType.String (chars x), i) q ≡ got {A = Read × ℕ} (token TokenType.String (chars y), j) r → x ≡ y
same_chars e = let f = ap (λ s. s.answer.0) e in cc

same_kind : {x y : Read} {i j q r : ℕ} → got {A = Read × ℕ} (x, i) q ≡ got {A = Read × ℕ} (y, j) r → kind x ≡ kind y
same_kind e = ap (λ s. kind s.answer.0) e

none_written : {t o : List ℕ} {i n : ℕ} {o' : List ℕ} {x : Read} {j r : ℕ} → Goes t 0 (spec.read_string fuel [] i) (x, j) r → kind x ≡ false → Written t i o n o'
none_written m d = record { wrote = λ cells e q s. absurd (false≢true (sym d ∙ same_kind (sym m.same ∙ s.same))) }

-- the walk has handed on the characters so far, each of which took f a step further
pub record Handing {F : Type 0} (step : F → ℕ → F → Type 0) (t : List ℕ) (from i n : ℕ) (f f' : F) : Type 0 where
  pub walk : Walking t from i n
  pub handed : FoldsTo step f walk.sofar f'

pub handing_none : {F : Type 0} (step : F → ℕ → F → Type 0) (t : List ℕ) (i : ℕ) (f : F) → i ≤ length t → length t ≤ max_chars → Handing step t i i 0 f f
unfolding walking_none
handing_none step t i f h l = record { walk = walking_none t i h l; handed = refl }

module _ {F : Type 0} {step : F → ℕ → F → Type 0} {t : List ℕ} {from i n : ℕ} {f f' : F} (k : Handing step t from i n f f') where
  pub handing_few : {c j : ℕ} → At t i (Ok (Char c j)) → length k.walk.sofar < length t
  handing_few g = let l = walking_on k.walk g in let u = k.walk.on in let w = k.walk.size in omega arith

  pub handing_more : {c j : ℕ} → At t i (Ok (Char c j)) → {f'' : F} → step f' c f'' → Handing step t from j (n + 1) f f''
  unfolding walking_more
  handing_more {c} g {f''} s = record { walk = walking_more k.walk g; handed = FoldsTo-push step f k.walk.sofar f' c f'' k.handed s }

  pub handing_ended : {j : ℕ} → At t i (Ok (Quote j)) → Handed step t from f (Ok (Chars n j)) f'
  unfolding walking_ended
  handing_ended g = record { inside = walking_ended k.walk g; handed = λ _. k.handed }

-- What breaks off hands on nothing that is told.
pub handed_not : {F : Type 0} {step : F → ℕ → F → Type 0} {t : List ℕ} {i : ℕ} {f f' : F} {x : Result Literal Broken} → Inside t i x → is_string x ≡ false → Handed step t i f x f'
handed_not h e = record { inside = h; handed = λ g. absurd (false≢true (sym e ∙ g)) }

-- The characters of a string were written, whatever wrote them.
pub written_by : {t o : List ℕ} {i n : ℕ} {o' : List ℕ} (x : Result Literal Broken) (h : Inside t i x) → (is_string x ≡ true → (n ≡ length h.cells) × (o' ≡ front h.cells o)) → Written t i o n o'
written_by (Ok (Chars m j)) h w = record {
  wrote = λ cells e q s.
      let x : h.cells ≡ cells = same_chars (sym h.sees.same ∙ s.same) in
      let z = w refl in
      record { size = rw (← x) z.0; left = rw (← x) z.1 };
}
written_by (Ok (LineEnds j)) h w = none_written h.sees refl
written_by (Ok (TextEnds j)) h w = none_written h.sees refl
written_by (Err b) h w = none_written h.sees refl

-- What takes each character writes it behind those before it, counts it, and keeps what it writes to.
module _ {F N : Type 0} {step : F → ℕ → F → Type 0} (out : F → List ℕ) (n : F → ℕ) (to : F → N) (each : (f : F) (c : ℕ) (f' : F) → step f c f' → (out f' ≡ set (out f) (n f) c) × (n f' ≡ n f + 1) × (to f' ≡ to f)) where
  pub record Put (o : List ℕ) (w : N) (cells : List ℕ) (f : F) : Type 0 where
    pub count : n f ≡ length cells
    pub same : length (out f) ≡ length o
    pub left : length cells ≤ length o → out f ≡ front cells o
    pub kept : to f ≡ w

  put_more : (o : List ℕ) (w : N) (cells : List ℕ) (f : F) (c : ℕ) (f' : F) → Put o w cells f → step f c f' → Put o w (cells ++ c ∷ []) f'
  put_more o w cells f c f' p s =
      let e = each f c f' s in
      let a = length-append cells (c ∷ []) in
      record {
        count = omega (arith, p.count, e.1, a);
        same = ap length e.0 ∙ length-set (out f) (n f) c ∙ p.same;
        left = λ h. e.0 ∙ (let l : length cells < length o = omega (arith, a, h) in rw (p.left (omega (arith, l)), p.count) (front_snoc cells o c l));
        kept = e.2 ∙ p.kept;
      }

  pub put_all : {f f' : F} (cells : List ℕ) → n f ≡ 0 → FoldsTo step f cells f' → Put (out f) (to f) cells f'
  put_all {f} {f'} cells z s = chained_keeps step (Put (out f) (to f)) (put_more (out f) (to f)) cells f f' (record { count = z; same = refl; left = λ _. refl; kept = refl }) s
