-- Each way through a number, followed look by look with its exact reach.
use mathlib.Core.Path.{◌≡◌, refl, sym, ◌∙◌}
use mathlib.Core.Bool.{Bool, true, false, ◌||◌}
use mathlib.Core.List.{List, []}
use Prim.Native.Nat.{ℕ, ◌+◌, ◌≤◌, ◌<◌}
use native.Mathlib.Omega.{arith}
use mir.Val.{bool_byte}
use lib.Dec.{eqb}
use lib.ListN.{length}
use Rattle.reading.specs.Look.{cell_at}
use Rattle.reading.specs.Cells.{holds, is}
use Rattle.reading.specs.Span.{part}
use Rattle.reading.proofs.Test.{either}
use Rattle.reading.proofs.Cell.{cell_there}
use Rattle.reading.proofs.Passed.{Passed, part_none}
use Rattle.reading.proofs.Going.{begins, asks, takes, finds, sees_from, sees_gather}
use Rattle.text.specs.Limits.{max_chars}
use Rattle.text.specs.Classes.{is_digit}
use Rattle.lexer.specs.Number.{read_sign, read_exponent, read_number}
use Rattle.lexer.specs.Numerals.{Signed, Exponented, Numbered, places}
use Rattle.lexer.specs.Token.{fuel}

pub letter_there : (t : List ℕ) (i : ℕ) → is 0x65 (cell_at t i) || is 0x45 (cell_at t i) ≡ true → i < length t
letter_there t i e = either (is 0x65 (cell_at t i)) e (cell_there (eqb 0x65) t i) (cell_there (eqb 0x45) t i)

module _ (t : List ℕ) (i : ℕ) {a : Bool} (p : a ≡ is 0x2B (cell_at t i)) where
  pub sign_plus : a ≡ true → Signed t i false (i + 1)
  sign_plus e =
      let h = cell_there (eqb 0x2B) t i (sym p ∙ e) in
      record { sees = finds (rw (sym p ∙ e) at (asks (begins t 0 (read_sign i)) (i + 1) (omega arith))); from = omega arith; within = omega arith }

  module _ (e : a ≡ false) {b : Bool} (q : b ≡ is 0x2D (cell_at t i)) where
    sign_minus : b ≡ true → Signed t i true (i + 1)
    sign_minus f =
        let h = cell_there (eqb 0x2D) t i (sym q ∙ f) in
        record { sees = finds (rw (sym p ∙ e, sym q ∙ f) at (asks (begins t 0 (read_sign i)) (i + 1) (omega arith))); from = omega arith; within = omega arith }

    sign_none : b ≡ false → i ≤ length t → Signed t i false i
    sign_none f h = record { sees = finds (rw (sym p ∙ e, sym q ∙ f) at (asks (begins t 0 (read_sign i)) (i + 1) (omega arith))); from = omega arith; within = h }

-- A minus or no sign.
pub sign_other : (t : List ℕ) (i : ℕ) {a : Bool} → a ≡ is 0x2B (cell_at t i) → a ≡ false → (b : Bool) → b ≡ is 0x2D (cell_at t i) → i ≤ length t → Signed t i b (i + bool_byte b)
sign_other t i p e true q h = sign_minus t i p e q refl
sign_other t i p e false q h = let z : i + 0 ≡ i = omega arith in rw z (sign_none t i p e q refl h)

module _ (t : List ℕ) (i : ℕ) (small : length t ≤ max_chars) {a : Bool} (p : a ≡ is 0x65 (cell_at t i) || is 0x45 (cell_at t i)) where
  pub exponent_none : a ≡ false → i ≤ length t → Exponented t i false i i
  exponent_none e h = record {
    sees = λ before after. rw part_none (finds (rw (sym p ∙ e) at (asks (begins t 0 (read_exponent fuel before after i)) (i + 1) (omega arith))));
    begin = omega arith;
    on = omega arith;
    within = h;
  }

  pub exponent_some : a ≡ true → {m : Bool} {from end : ℕ} → Signed t (i + 1) m from → Passed is_digit t from end → Exponented t i m from end
  exponent_some e {m} {from} {end} s d =
      let n = d.from in
      let h = s.from in
      record {
        sees = λ before after.
            let g = rw (sym p ∙ e) at (asks (begins t 0 (read_exponent fuel before after i)) (i + 1) (omega arith)) in
            let k = takes s.sees _ g (i + 2) (omega arith) in
            finds (takes (sees_gather d fuel (omega arith)) _ k (end + 1) (omega arith));
        begin = omega arith;
        on = omega arith;
        within = d.within;
      }

module _ (t : List ℕ) (i : ℕ) (small : length t ≤ max_chars) {b : ℕ} (d : Passed is_digit t i b) {x : Bool} (p : x ≡ is 0x2E (cell_at t b)) where
  pub number_whole : x ≡ false → {m : Bool} {from end : ℕ} → Exponented t b m from end → Numbered t i (places b b b m from end (end + 1))
  number_whole e {m} {from} {end} k =
      let n = d.from in
      let y = k.begin in let z = k.on in
      let g = asks (takes (sees_gather d fuel (omega arith)) _ (begins t 0 (read_number fuel i)) (b + 1) (omega arith)) (b + 1) (omega arith) in
      record {
        sees = rw (part_none t b) (sees_from (rw (sym p ∙ e) at g) (k.sees (part t i b) []) (end + 1) (omega arith));
        first = n;
        point = omega arith;
        second = omega arith;
        letter = omega arith;
        third = omega arith;
        within = k.within;
      }

  module _ (e : x ≡ true) {y : Bool} (q : y ≡ holds is_digit (cell_at t (b + 1))) where
    pub number-point : y ≡ false → Numbered t i (places b b b false b b (b + 2))
    number-point f =
        let n = d.from in
        let g = asks (takes (sees_gather d fuel (omega arith)) _ (begins t 0 (read_number fuel i)) (b + 1) (omega arith)) (b + 1) (omega arith) in
        let k = asks (rw (sym p ∙ e) at g) (b + 2) (omega arith) in
        record {
          sees = rw (part_none t b) (finds (rw (sym q ∙ f) at k));
          first = n;
          point = omega arith;
          second = omega arith;
          letter = omega arith;
          third = omega arith;
          within = d.within;
        }

    pub number-after : y ≡ true → {a : ℕ} → Passed is_digit t (b + 1) a → {m : Bool} {from end : ℕ} → Exponented t a m from end → Numbered t i (places b (b + 1) a m from end (end + 1))
    number-after f {a} d' {m} {from} {end} k =
        let n = d.from in
        let n' = d'.from in
        let y' = k.begin in let z = k.on in
        let g = asks (takes (sees_gather d fuel (omega arith)) _ (begins t 0 (read_number fuel i)) (b + 1) (omega arith)) (b + 1) (omega arith) in
        let l = rw (sym q ∙ f) at (asks (rw (sym p ∙ e) at g) (b + 2) (omega arith)) in
        let o = takes (sees_gather d' fuel (omega arith)) _ l (a + 1) (omega arith) in
        record {
          sees = sees_from o (k.sees (part t i b) (part t (b + 1) a)) (end + 1) (omega arith);
          first = n;
          point = omega arith;
          second = n';
          letter = y';
          third = z;
          within = k.within;
        }
