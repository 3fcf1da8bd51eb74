-- The search for a match in code: rows are passed while they lie before the state, and the flags are compared as numbers.
use mathlib.Core.Path.{◌≡◌, refl, sym, ap, ◌∙◌, subst}
use mathlib.Core.Bool.{Bool, true, false, ◌&&◌, beq, false≢true}
use mathlib.Core.List.{List, []}
use Prim.Native.Nat.{ℕ, ◌+◌, ◌-◌, ◌≤◌, ◌<◌, max}
use native.Mathlib.Omega.{arith}
use lib.Dec.{leb, eqb}
use lib.ListN.{length, get_or}
use borrow.Author.Tests.{leb-true, eqb-true, eq-eqb}
use Rattle.reading.proofs.Test.{both, by_order}
use Rattle.lexer.specs.Flags.{Flags}
use Rattle.runs.specs.Edit.{Edit, moved}
use Rattle.runs.specs.Repair.{same_flags}
use Rattle.runs.specs.Record.{flag_bits, bit_flags, refused_at, flags_at}
use Rattle.repair.specs.Match.{Accepted, place_at, Passed, Before, Ahead, Looked}
use Rattle.runs.proofs.RepairLaws.{same_flags_lem}
use Rattle.runs.proofs.RecordLaws.{bits_back, bits_again}
use Rattle.repair.proofs.FittingLaws.{record_row}
use Rattle.repair.proofs.PointerLaws.{record_rising, passed-row, match_end, match_none, match_here}

module _ {e : Edit} {rows : List (List ℕ)} {j p : ℕ} where
  pub ahead_last : length rows ≤ j + 1 → Ahead e rows j p
  ahead_last h = record { so = λ l. absurd (omega arith) }

  -- A loop from `first` ends at the last row, or does not begin where that lies before.
  pub passed_all : {first last m : ℕ} → last ≡ length rows - 1 → Passed e rows first p → Passed e rows j p → last ≤ j → (first ≤ last → j ≤ last) → m ≡ max first last → Passed e rows m p × Ahead e rows m p
  passed_all {first} {last} {m} l a b h k o = by_order first last
      (λ g. let z : m ≡ j = omega (arith, k (omega arith)) in rw z (b, ahead_last (omega arith)))
      (λ g. let z : m ≡ first = omega arith in rw z (a, record { so = λ n. absurd (omega arith) }))

  -- By the test of the row's place.
  module _ {q : ℕ} (place : q ≡ place_at rows j) {b : Bool} (o : Before e q p b) where
    pub ahead_at : b ≡ false → Ahead e rows j p
    ahead_at h = record { so = λ _. (subst (λ x. Before e x p b) place o).no h }

    pub passed_by_test : b ≡ true → Passed e rows j p → j < length rows → Passed e rows (j + 1) p
    passed_by_test h s l = passed-row s l ((subst (λ x. Before e x p b) place o).yes h)

-- Flags are the same where their numbers are.
same_self : (b : Bool) → beq b b ≡ true
same_self true = refl
same_self false = refl

flags_self : (f : Flags) → same_flags f f ≡ true
flags_self f = rw (same_self f.unary_tests, same_self f.between, same_self f.type_name, same_self f.till_in, same_self f.after_dot)

module _ (n : ℕ) (f : Flags) where
  numbers_same : eqb n (flag_bits f) ≡ true → same_flags (bit_flags n) f ≡ true
  numbers_same h = let z : n ≡ flag_bits f = eqb-true n (flag_bits f) h in ap (λ m. same_flags (bit_flags m) f) z ∙ ap (λ g. same_flags g f) (bits_back f) ∙ flags_self f

  numbers_differ : n ≤ 31 → eqb n (flag_bits f) ≡ false → same_flags (bit_flags n) f ≡ false
  numbers_differ l h = go (same_flags (bit_flags n) f) refl
    where
      go : (b : Bool) → same_flags (bit_flags n) f ≡ b → b ≡ false
      go true s = absurd (false≢true (sym h ∙ eq-eqb n (flag_bits f) (sym (ap flag_bits (sym (same_flags_lem (bit_flags n) f s)) ∙ bits_again n l))))
      go false s = refl

module _ {e : Edit} {rows : List (List ℕ)} {j p : ℕ} (s : Passed e rows j p) (f : Flags) where
  pub looked_last : length rows ≤ j + 1 → Looked e rows j p f false
  looked_last h = record { found = λ b. absurd (false≢true b); missed = λ _ store. match_end s h store f }

  module _ (o : Ahead e rows j p) (a : Accepted rows) (h : j + 1 < length rows) where
    pub looked_off : (moved e (place_at rows j) ≡ p → ⊥) → Looked e rows j p f false
    looked_off g = record {
      found = λ b. absurd (false≢true b);
      missed = λ _ store. match_none s (record_rising a.size (record { rows = rows; store = a.store }) a.fits) h (o.so h).0 store f (o.so h).1 (λ q. absurd (g q));
    }

    pub looked_flags : moved e (place_at rows j) ≡ p → {m : ℕ} → m ≡ flag_bits f → Looked e rows j p f (eqb (get_or (get_or rows j []) flags_at 0) m)
    looked_flags q {m} z =
        let r = get_or rows j [] in
        let n = get_or r flags_at 0 in
        let w = (record_row a.size (record { rows = rows; store = a.store }) a.fits j (omega arith)).row in
        let small : n ≤ 31 = leb-true n 31 (both (leb (get_or r refused_at 0) 1) (leb n 31) (both (leb (get_or r refused_at 0) 1 && leb n 31) _ w).0).1 in
        record {
          found = λ b. record { more = h; behind = (o.so h).0; place = q; rest = λ store. match_here s (record_rising a.size (record { rows = rows; store = a.store }) a.fits) h (o.so h).0 store f q (numbers_same n f (rw z at b)) };
          missed = λ b store. match_none s (record_rising a.size (record { rows = rows; store = a.store }) a.fits) h (o.so h).0 store f (o.so h).1 (λ _. numbers_differ n f small (rw z at b));
        }
