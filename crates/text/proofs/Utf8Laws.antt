-- Well-formed sequences byte by byte: for each first byte the table leaves one row or none, by computation over the 256 bytes.
use Rattle.std.specs.Prelude.{None, Some}
use mathlib.Core.Path.{◌≡◌, refl, sym, ap, ◌∙◌}
use mathlib.Core.Bool.{Bool, true, false, cond, ◌&&◌, ◌||◌, not, false≢true}
use mathlib.Core.List.{List, [], ◌∷◌}
use Prim.Native.Nat.{ℕ, zero, suc, ◌+◌, ◌-◌, ◌*◌, ◌/◌, ◌%◌, ◌^◌, ◌≤◌, ◌<◌}
use native.Mathlib.Nat.{mod-eq_of_lt, not-suc-le-zero}
use native.Mathlib.Numerals.{add-one}
use native.Mathlib.Omega.{arith}
use lib.Count.{count_leading_zeros}
use lib.Dec.{leb, ltb, eqb}
use borrow.Author.Tests.{leb-true, le-leb, lt-leb, lt-ltb, le-ltb, eqb-true, ne_eqb}
use lib.ListN.{length, get_or, take, drop, replicate, length-take, length-replicate, drop_of_length-le}
use lib.Seq.{drop-cons}
use Rattle.std.specs.List.{list_all}
use Rattle.reading.proofs.Test.{both, either, below}
use Rattle.text.specs.Ranges.{to, within}
use Rattle.text.specs.Utf8.{leading_ones, sequence_length, continuing, well_formed_rows, fits_row, fits_some, append_bits, sequence}
use Rattle.text.specs.Opening.{second_low, second_high}

-- The count of leading ones as the machine gives it.
abbrev is_count : ℕ → Bool
is_count b = eqb (count_leading_zeros 8 (255 - b)) (leading_ones b)

pub ones_of_lem : (b : ℕ) → b < 256 → count_leading_zeros 8 (255 - b) ≡ leading_ones b
unfolding count_leading_zeros leading_ones
ones_of_lem b h = eqb-true (count_leading_zeros 8 (255 - b)) (leading_ones b) (below is_count 256 refl b h)

-- Equality of lists, tested.
abbrev same_list : {A : Type 0} → (A → A → Bool) → List A → List A → Bool
same_list e [] [] = true
same_list e [] (y ∷ ys) = false
same_list e (x ∷ xs) [] = false
same_list e (x ∷ xs) (y ∷ ys) = e x y && same_list e xs ys

same_list_true : {A : Type 0} (e : A → A → Bool) → ((x y : A) → e x y ≡ true → x ≡ y) → (xs ys : List A) → same_list e xs ys ≡ true → xs ≡ ys
same_list_true e f [] [] h = refl
same_list_true e f [] (y ∷ ys) h = absurd (false≢true h)
same_list_true e f (x ∷ xs) [] h = absurd (false≢true h)
same_list_true e f (x ∷ xs) (y ∷ ys) h = let b = both (e x y) _ h in rw (f x y b.0, same_list_true e f xs ys b.1)

-- What the rows that admit a first byte ask of the bytes behind it.
unfoldable admitted : List (List (List ℕ)) → ℕ → List (List (List ℕ))
admitted [] b = []
admitted ([] ∷ rs) b = admitted rs b
admitted ((r ∷ rt) ∷ rs) b = cond (within r b) (rt ∷ admitted rs b) (admitted rs b)

fits-admitted : (rs : List (List (List ℕ))) (b : ℕ) (cs : List ℕ) → fits_some rs (b ∷ cs) ≡ fits_some (admitted rs b) cs
unfolding fits_some fits_row admitted
fits-admitted [] b cs = refl
fits-admitted ([] ∷ rs) b cs = fits-admitted rs b cs
fits-admitted ((r ∷ rt) ∷ rs) b cs = go (within r b) (fits-admitted rs b cs)
  where
    go : (w : Bool) → fits_some rs (b ∷ cs) ≡ fits_some (admitted rs b) cs → ((w && fits_row rt cs) || fits_some rs (b ∷ cs)) ≡ fits_some (cond w (rt ∷ admitted rs b) (admitted rs b)) cs
    go true e = ap (λ x. fits_row rt cs || x) e
    go false e = e

-- The ranges of the bytes behind a first byte of C2 to F4 with so many leading ones.
abbrev pub behind : ℕ → ℕ → List (List ℕ)
behind b ones = to (second_low b) (second_high b) ∷ replicate (ones - 2) continuing

abbrev is_lead : ℕ → Bool
is_lead b = leb 0xC2 b && leb b 0xF4

abbrev expected : ℕ → List (List (List ℕ))
expected b = cond (ltb b 0x80) ([] ∷ []) (cond (is_lead b) (behind b (leading_ones b) ∷ []) [])

abbrev is_expected : ℕ → Bool
is_expected b = same_list (same_list (same_list eqb)) (admitted well_formed_rows b) (expected b)

rows-expected : (b : ℕ) → b < 256 → admitted well_formed_rows b ≡ expected b
unfolding admitted well_formed_rows leading_ones
rows-expected b h = same_list_true _ (same_list_true _ (same_list_true eqb eqb-true)) _ _ (below is_expected 256 refl b h)

-- Of a first byte below 80, none; of one of C2 to F4, two to four.
pub few_ones : (b : ℕ) → b < 256 → 0xC2 ≤ b → b ≤ 0xF4 → (2 ≤ leading_ones b) × (leading_ones b ≤ 4)
unfolding leading_ones
few_ones b h l g =
    let t : is_lead b ≡ true = rw (le-leb 0xC2 b l, le-leb b 0xF4 g) in
    let k = either (not (is_lead b)) (below (λ b. not (is_lead b) || (leb 2 (leading_ones b) && leb (leading_ones b) 4)) 256 refl b h) (λ e. absurd (false≢true (rw t at e))) (λ e. e) in
    let m = both (leb 2 (leading_ones b)) _ k in
    (leb-true 2 (leading_ones b) m.0, leb-true (leading_ones b) 4 m.1)

no_ones : (b : ℕ) → b < 0x80 → leading_ones b ≡ 0
unfolding leading_ones
no_ones b h = eqb-true (leading_ones b) 0 (below (λ b. eqb (leading_ones b) 0) 0x80 refl b h)

-- A first byte below 80 is a character by itself.
pub sequence_ascii : (b : ℕ) (bs : List ℕ) → b < 0x80 → sequence (b ∷ bs) ≡ Some (b, 1)
unfolding sequence fits_some fits_row append_bits
sequence_ascii b bs h =
    let o = no_ones b h in
    let r = fits-admitted well_formed_rows b [] ∙ ap (λ rs. fits_some rs []) (rows-expected b (omega arith)) in
    let w : fits_some well_formed_rows (b ∷ []) ≡ true = r ∙ rw (lt-ltb b 0x80 h) in
    rw (o, w, mod-eq_of_lt {n = b} {m = 128} h)

fits_none : (b : ℕ) (cs : List ℕ) → b < 256 → 0x80 ≤ b → is_lead b ≡ false → fits_some well_formed_rows (b ∷ cs) ≡ false
unfolding fits_some
fits_none b cs h l e = fits-admitted well_formed_rows b cs ∙ ap (λ rs. fits_some rs cs) (rows-expected b h) ∙ rw (le-ltb b 0x80 l, e)

-- How many bytes a sequence has at least.
one_more : (b : ℕ) → sequence_length b ≡ suc (sequence_length b - 1)
one_more b = go (leading_ones b)
  where
    go : (n : ℕ) → cond (eqb n 0) 1 n ≡ suc (cond (eqb n 0) 1 n - 1)
    go zero = refl
    go (suc n) = rw (ne_eqb (suc n) 0 (λ e. let z : suc n ≡ 0 = e in omega arith)) (omega arith)

module _ (b : ℕ) (bs : List ℕ) (byte : b < 256) where
  sequence_bad : 0x80 ≤ b → is_lead b ≡ false → sequence (b ∷ bs) ≡ None
  unfolding sequence
  sequence_bad l e = rw (one_more b, fits_none b (take (sequence_length b - 1) bs) byte l e)

  pub sequence_below : 0x80 ≤ b → b < 0xC2 → sequence (b ∷ bs) ≡ None
  sequence_below l g = sequence_bad l (rw (lt-leb 0xC2 b g))

  pub sequence_above : 0xF4 < b → sequence (b ∷ bs) ≡ None
  sequence_above g = sequence_bad (omega arith) (rw (le-leb 0xC2 b (omega arith), lt-leb b 0xF4 g))

  -- A first byte of C2 to F4 asks for the bytes behind it.
  module _ (low : 0xC2 ≤ b) (high : b ≤ 0xF4) where
    fits_lead : (cs : List ℕ) → fits_some well_formed_rows (b ∷ cs) ≡ fits_row (behind b (leading_ones b)) cs
    unfolding fits_some
    fits_lead cs =
        fits-admitted well_formed_rows b cs ∙ ap (λ rs. fits_some rs cs) (rows-expected b byte)
        ∙ rw (le-ltb b 0x80 (omega arith), le-leb 0xC2 b low, le-leb b 0xF4 high) (or_false (fits_row (behind b (leading_ones b)) cs))
      where
        or_false : (x : Bool) → x || false ≡ x
        or_false true = refl
        or_false false = refl

    pub sequence_lead : (k : ℕ) → leading_ones b ≡ suc k
        → sequence (b ∷ bs) ≡ cond (fits_row (behind b (suc k)) (take k bs)) (Some (append_bits (b % 2 ^ (7 - suc k)) (take k bs), suc k)) None
    unfolding sequence
    sequence_lead k e = let one : suc k - 1 ≡ k = omega arith in rw (e, ne_eqb (suc k) 0 (λ z. let y : suc k ≡ 0 = z in omega arith), fits_lead (take k bs), e, one)

-- The bytes fit a row only if they are as many.
fits-length : (rs : List (List ℕ)) (bs : List ℕ) → length bs < length rs → fits_row rs bs ≡ false
unfolding fits_row
fits-length [] bs h = absurd (not-suc-le-zero h)
fits-length (r ∷ rs) [] h = refl
fits-length (r ∷ rs) (b ∷ bs) h = and_false (within r b) (fits-length rs bs (omega arith))
  where
    and_false : (x : Bool) {y : Bool} → y ≡ false → x && y ≡ false
    and_false true e = e
    and_false false e = refl

-- Bytes of which each is to continue the sequence.
fits_continuing : (bs : List ℕ) → fits_row (replicate (length bs) continuing) bs ≡ list_all (within continuing) bs
unfolding fits_row
fits_continuing [] = refl
fits_continuing (b ∷ bs) = rw (fits_continuing bs)

-- A byte shifted by the count of ones is the power of 2 that cuts the first byte's bits.
abbrev is_shift : ℕ → Bool
is_shift n = eqb (128 / 2 ^ n) (2 ^ (7 - n)) && (leb 1 (128 / 2 ^ n) && leb (128 / 2 ^ n) 128)

pub record Shift (n : ℕ) : Type 0 where
  pub is : 128 / 2 ^ n ≡ 2 ^ (7 - n)
  pub over : 1 ≤ 128 / 2 ^ n
  pub under : 128 / 2 ^ n ≤ 128

pub shift_lem : (n : ℕ) → n < 8 → Shift n
shift_lem n h =
    let t = both (eqb (128 / 2 ^ n) (2 ^ (7 - n))) _ (below is_shift 8 refl n h) in
    let u = both (leb 1 (128 / 2 ^ n)) (leb (128 / 2 ^ n) 128) t.1 in
    record { is = eqb-true _ _ t.0; over = leb-true _ _ u.0; under = leb-true _ _ u.1 }

-- The sequence of a first byte of C2 to F4, as code reads it: the count of its ones tells how many bytes are behind it, and those are tested.
module _ (b : ℕ) (bs : List ℕ) (byte : b < 256) (lead : (0xC2 ≤ b) × (b ≤ 0xF4)) {ones : ℕ} (count : ones ≡ leading_ones b) where
  few : (2 ≤ ones) × (ones ≤ 4)
  few = let n = few_ones b byte lead.0 lead.1 in omega arith

  opened : sequence (b ∷ bs) ≡ cond (fits_row (behind b ones) (take (ones - 1) bs)) (Some (append_bits (b % 2 ^ (7 - ones)) (take (ones - 1) bs), ones)) None
  opened = let n = few in let e : suc (ones - 1) ≡ ones = omega arith in rw e at (sequence_lead b bs byte lead.0 lead.1 (ones - 1) (sym count ∙ sym e))

  pub long_short : length bs < ones - 1 → None ≡ sequence (b ∷ bs)
  long_short h =
      let n = few in
      let l = length-take (ones - 1) bs in
      let r = length-replicate (ones - 2) continuing in
      rw (opened, fits-length (behind b ones) (take (ones - 1) bs) (omega arith))

  module _ {t ds : List ℕ} {c : ℕ} (tail : t ≡ take (ones - 1 - 0) bs) (parts : t ≡ c ∷ ds) (many : length t ≡ ones - 1) where
    tested : sequence (b ∷ bs) ≡ cond (within (to (second_low b) (second_high b)) c && list_all (within continuing) ds) (Some (append_bits (b % 2 ^ (7 - ones)) t, ones)) None
    unfolding fits_row
    tested =
        let n = few in
        let z : ones - 1 - 0 ≡ ones - 1 = omega arith in
        let l : ones - 2 ≡ length ds = omega (arith, ap length parts) in
        rw (opened, ← z, ← tail, parts, l, fits_continuing ds)

    pub long_second : false ≡ within (to (second_low b) (second_high b)) c → None ≡ sequence (b ∷ bs)
    long_second e = rw (tested, ← e)

    pub long_others : true ≡ within (to (second_low b) (second_high b)) c → false ≡ list_all (within continuing) ds → None ≡ sequence (b ∷ bs)
    long_others e f = rw (tested, ← e, ← f)

    pub long_fine : {v : ℕ} → true ≡ within (to (second_low b) (second_high b)) c → true ≡ list_all (within continuing) ds → v ≡ append_bits (b % (128 / 2 ^ ones)) t → Some (v, ones) ≡ sequence (b ∷ bs)
    long_fine e f g = let n = few in rw (tested, ← e, ← f, g, (shift_lem ones (omega arith)).is)

-- The bits of i bytes of t stand behind those that the reading began with.
pub record Bits (t : List ℕ) (v i w : ℕ) : Type 0 where
  pub rest : append_bits w (drop i t) ≡ append_bits v t
  pub none : i ≤ 0 → w < 128
  pub one : i ≤ 1 → w < 8192
  pub two : i ≤ 2 → w < 524_288

module _ (t : List ℕ) (b ones : ℕ) {v : ℕ} (cut : v ≡ b % (128 / 2 ^ ones)) (few : ones ≤ 4) where
  pub bits_none : Bits t v 0 v
  bits_none =
      let s = shift_lem ones (omega arith) in
      let l : v < 128 = omega (arith, cut, s.over, s.under) in
      record { rest = refl; none = λ _. l; one = λ _. omega arith; two = λ _. omega arith }

module _ {t : List ℕ} {v i w : ℕ} (k : Bits t v i w) where
  pub bits_more : i < length t → i < 3 → Bits t v (i + 1) (w * 64 + get_or t i 0 % 64)
  unfolding append_bits
  bits_more h l = record {
    rest = rw (add-one) (rw (drop-cons t i 0 h) at k.rest);
    none = λ m. absurd (omega arith);
    one = λ m. omega (arith, k.none (omega arith));
    two = λ m. omega (arith, k.one (omega arith));
  }

  pub bits_all : length t ≤ i → w ≡ append_bits v t
  unfolding append_bits
  bits_all h = rw (drop_of_length-le t h) at k.rest

-- Any first byte, or none.
pub at_end : (t : List ℕ) → length t < 1 → None ≡ sequence t
unfolding sequence
at_end [] h = refl
at_end (b ∷ bs) h = absurd (omega arith)

module _ (t : List ℕ) (here : 0 < length t) where
  pub at_ascii : get_or t 0 0 < 0x80 → Some (get_or t 0 0, 1) ≡ sequence t
  at_ascii h = rw (drop-cons t 0 0 here) (sym (sequence_ascii (get_or t 0 0) (drop 1 t) h))

  module _ (byte : get_or t 0 0 < 256) where
    pub at_below : 0x80 ≤ get_or t 0 0 → get_or t 0 0 < 0xC2 → None ≡ sequence t
    at_below l h = rw (drop-cons t 0 0 here) (sym (sequence_below (get_or t 0 0) (drop 1 t) byte l h))

    pub at_above : 0xF4 < get_or t 0 0 → None ≡ sequence t
    at_above h = rw (drop-cons t 0 0 here) (sym (sequence_above (get_or t 0 0) (drop 1 t) byte h))
