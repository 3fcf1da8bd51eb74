-- A name stays in the text, takes a cell, and its value is no longer than the cells taken: two words with nothing between them would have been one.
use Rattle.std.specs.Prelude.{Option, None, Some}
use mathlib.Core.Path.{◌≡◌, refl, sym, ap, ◌∙◌, subst}
use mathlib.Core.Bool.{Bool, true, false, cond, ◌&&◌, false≢true, true≢false}
use mathlib.Core.List.{List, [], ◌∷◌, map}
use Prim.Native.Nat.{ℕ, zero, suc, ◌+◌, ◌-◌, ◌≤◌, ◌<◌}
use native.Mathlib.Nat.{not-suc-le-zero}
use native.Mathlib.Omega.{arith}
use lib.Dec.{leb}
use borrow.Author.Tests.{leb-true}
use lib.ListN.{length, take, length-append}
use Rattle.reading.specs.Codes.{codes}
use Rattle.reading.specs.Look.{cell_at}
use Rattle.reading.specs.Cells.{holds, is}
use Rattle.reading.specs.Goes.{Sees}
use Rattle.reading.proofs.Test.{by_test, both, every}
use Rattle.reading.proofs.Cell.{cell_there, cell_out}
use Rattle.reading.proofs.Passed.{passed_more}
use Rattle.reading.proofs.Ensures.{Ensures, answers, asks, asks_cell, binds, tests, weakens, gathers}
use Rattle.text.specs.Ranges.{among}
use Rattle.text.specs.Classes.{is_whitespace, is_name_part, is_white, is_symbol}
use Rattle.names.specs.Same.{same, member}
use Rattle.names.specs.Trim.{trim}
use Rattle.names.specs.Name.{is_symbol_text, led, joined, new_name}
use Rattle.names.specs.Fixed.{type_names, temporal_names}
use Rattle.names.proofs.Shorter.{trim-length, led-length, led-symbol}
use Rattle.lexer.specs.Flags.{Flags}
use Rattle.lexer.specs.Read.{token, Outcome, has_form}
use Rattle.lexer.specs.Parts.{Part, walk}
use Rattle.lexer.specs.Naming.{texts, name_of, end_of, starts_with, with_part, before_in, fits, longest, is_found, all_parts, by_prefix, by_in, cut_name, read_name}
use Rattle.lexer.proofs.Fine.{Fine, over, fine}
use Rattle.lexer.proofs.SkipFacts.{far}
use Rattle.lexer.proofs.NumberFacts.{gathered_length}

-- Each part ends between lo and hi, and with its space, if it has one, is no longer than what it took; the part before it ended at `from`.
abbrev Ends : ℕ → ℕ → Bool → ℕ → List Part → Type 0
Ends lo hi tight from [] = Unit
Ends lo hi tight from (p ∷ ps) =
    (lo ≤ p.end) × (p.end ≤ hi) × (from + length (led tight (trim p.cells)) ≤ p.end) × Ends lo hi (is_symbol_text (trim p.cells)) p.end ps

-- Symbols stay as they are, and are symbols, when trimmed.
abbrev is_tight : ℕ → Bool
is_tight c = is_symbol_text (trim (c ∷ [])) && leb (length (trim (c ∷ []))) 1

symbol_tight : (c : ℕ) → is_symbol c ≡ true → (is_symbol_text (trim (c ∷ [])) ≡ true) × (length (trim (c ∷ [])) ≤ 1)
unfolding is_symbol trim is_white among
symbol_tight c g =
    let s = both (is_symbol_text (trim (c ∷ []))) _ (every is_tight (codes "./-'+*") c refl g) in
    (s.0, leb-true (length (trim (c ∷ []))) 1 s.1)

module _ (t : List ℕ) where
  -- A word may stand at i: right behind another one there is none.
  abbrev Free : Bool → ℕ → ℕ → Type 0
  Free tight from i = (from ≤ i) × (tight ≡ false → holds is_name_part (cell_at t i) ≡ true → from < i)

  word_fits : (tight : Bool) (from i : ℕ) (w : List ℕ) → Free tight from i → holds is_name_part (cell_at t i) ≡ true → from + length (led tight (trim w)) ≤ i + length w
  word_fits true from i w o h = omega (arith, o.0, trim-length w)
  word_fits false from i w o h = omega (arith, o.1 refl h, trim-length w, led-length (trim w))

  module _ (f f' : ℕ) (enough : length t < f) (enough' : length t < f') where
    -- What a walk from i gives: its parts, and where it ended.
    record Walked (lo : ℕ) (tight : Bool) (from i : ℕ) (r : List Part × ℕ) : Type 0 where
      parts : Ends lo r.1 tight from r.0
      onward : i ≤ r.1
      within : r.1 ≤ length t
      begun : holds is_name_part (cell_at t i) ≡ true → 0 < length r.0

    walks : (lo k k' : ℕ) (tight : Bool) (from i : ℕ) → Free tight from i → lo ≤ suc i → i ≤ length t → length t - i < k → length t - i < k'
        → Ensures t (far t) (Walked lo tight from i) (walk f k i) (walk f' k' i)
    unfolding walk
    walks lo zero k' tight from i o l h e e' = absurd (not-suc-le-zero e)
    walks lo (suc k) zero tight from i o l h e e' = absurd (not-suc-le-zero e')
    walks lo (suc k) (suc k') tight from i o l h e e' = asks_cell (omega arith) (λ m. answers (stopped (rw (cell_out t i m) refl))) (λ c q m. tests (is_name_part c)
        (λ g. let there : holds is_name_part (cell_at t i) ≡ true = rw q g in
        binds (gathers is_name_part t (far t) f f' i h (omega arith) (omega arith) (omega arith)) (λ w d.
        let u = passed_more d.run_ends there in
        let n = gathered_length d in
        let v = d.run_ends.within in
        binds (walks lo k k' (is_symbol_text (trim w.0)) w.1 w.1 (omega arith, λ _ z. absurd (false≢true (sym d.run_ends.out ∙ z))) (omega arith) v (omega arith) (omega arith))
        (λ r s. let a = s.onward in answers (record {
          parts = (omega arith, a, (let z = word_fits tight from i w.0 o there in omega arith), s.parts);
          onward = omega arith;
          within = s.within;
          begun = λ _. omega arith;
        }))))
        (λ x. tests (is_symbol c)
        (λ g. let z = symbol_tight c g in
        binds (walks lo k k' (is_symbol_text (trim (c ∷ []))) (i + 1) (i + 1) (omega arith, λ y _. absurd (true≢false (sym z.0 ∙ y))) (omega arith) (omega arith) (omega arith) (omega arith))
        (λ r s. let a = s.onward in answers (record {
          parts = (omega arith, a, (let b = o.0 in omega (arith, led-symbol tight (trim (c ∷ [])) z.0, z.1)), s.parts);
          onward = omega arith;
          within = s.within;
          begun = λ _. omega arith;
        })))
        (λ _. tests (is_whitespace c)
        (λ g. let there : holds is_whitespace (cell_at t i) ≡ true = rw q g in
        binds (gathers is_whitespace t (far t) f f' i h (omega arith) (omega arith) (omega arith)) (λ w d.
        let u = passed_more d.run_ends there in
        let v = d.run_ends.within in
        let b = o.0 in
        weakens (walks lo k k' tight from w.1 (omega arith, λ _ _. omega arith) (omega arith) v (omega arith) (omega arith))
        (λ r s. let a = s.onward in record { parts = s.parts; onward = omega arith; within = s.within; begun = λ y. absurd (false≢true (sym x ∙ rw q at y)) })))
        (λ _. answers (stopped (rw q x))))))
      where
        stopped : holds is_name_part (cell_at t i) ≡ false → Walked lo tight from i ([], i)
        stopped x = record { parts = tt; onward = omega arith; within = h; begun = λ y. absurd (false≢true (sym x ∙ y)) }

-- A prefix of the parts is as good as all.
at-end : (lo hi : ℕ) (tight : Bool) (from : ℕ) (p : Part) (ps : List Part) → Ends lo hi tight from (p ∷ ps)
    → (lo ≤ end_of (p ∷ ps)) × (end_of (p ∷ ps) ≤ hi) × (from + length (joined tight (map trim (texts (p ∷ ps)))) ≤ end_of (p ∷ ps))
at-end lo hi tight from p [] h = (h.0, h.1, omega (arith, h.2, length-append (led tight (trim p.cells)) []))
at-end lo hi tight from p (q ∷ ps) h =
    let k = at-end lo hi (is_symbol_text (trim p.cells)) p.end q ps h.3 in
    (k.0, k.1, omega (arith, h.2, k.2, length-append (led tight (trim p.cells)) (joined (is_symbol_text (trim p.cells)) (map trim (texts (q ∷ ps))))))

ends-take : (lo hi : ℕ) (tight : Bool) (from m : ℕ) (ps : List Part) → Ends lo hi tight from ps → Ends lo hi tight from (take m ps)
ends-take lo hi tight from zero ps h = tt
ends-take lo hi tight from (suc m) [] h = tt
ends-take lo hi tight from (suc m) (p ∷ ps) h = (h.0, h.1, h.2, ends-take lo hi (is_symbol_text (trim p.cells)) p.end m ps h.3)

abbrev EndsIf : ℕ → ℕ → Bool → ℕ → Option (List Part) → Type 0
EndsIf lo hi tight from None = Unit
EndsIf lo hi tight from (Some ps) = Ends lo hi tight from ps

ends_with : (lo hi : ℕ) (tight : Bool) (from : ℕ) (p : Part) (o : Option (List Part)) → lo ≤ p.end → p.end ≤ hi → from + length (led tight (trim p.cells)) ≤ p.end
    → EndsIf lo hi (is_symbol_text (trim p.cells)) p.end o → EndsIf lo hi tight from (with_part p o)
ends_with lo hi tight from p None x y z g = tt
ends_with lo hi tight from p (Some qs) x y z g = (x, y, z, g)

ends-before_in : (lo hi : ℕ) (tight : Bool) (from : ℕ) (ps : List Part) → Ends lo hi tight from ps → EndsIf lo hi tight from (before_in ps)
ends-before_in lo hi tight from [] h = tt
ends-before_in lo hi tight from (p ∷ ps) h = by_test (EndsIf lo hi tight from) (same p.cells (codes "in")) (λ _. tt)
    (λ _. ends_with lo hi tight from p (before_in ps) h.0 h.1 h.2 (ends-before_in lo hi (is_symbol_text (trim p.cells)) p.end ps h.3))

-- A name of some parts, read up to its last one, or to hi.
module _ (n lo hi from : ℕ) (within : hi ≤ n) where
  abbrev Named : Outcome → Type 0
  Named o = Fine n lo o.read o.used

  prefix_fine : (k : ℕ) (p : Part) (ps : List Part) → has_form (token k (name_of (p ∷ ps))) ≡ true → Ends lo hi true from (p ∷ ps) → Fine n lo (token k (name_of (p ∷ ps))) (end_of (p ∷ ps))
  prefix_fine k p ps g h = let z = at-end lo hi true from p ps h in fine n lo (end_of (p ∷ ps)) (omega arith) (omega arith) z.0 g

  all_fine : (k : ℕ) (p : Part) (ps : List Part) → has_form (token k (name_of (p ∷ ps))) ≡ true → Ends lo hi true from (p ∷ ps) → Fine n lo (token k (name_of (p ∷ ps))) hi
  all_fine k p ps g h = let z = at-end lo hi true from p ps h in fine n lo hi within (omega arith) (omega arith) g

  -- A prefix is not empty.
  abbrev Prefix : Option (List Part) → Type 0
  Prefix None = Unit
  Prefix (Some []) = ⊥
  Prefix (Some (q ∷ qs)) = Ends lo hi true from (q ∷ qs)

  module _ (f : Flags) (is_name : List ℕ → Bool) (start : ℕ) (begins : start ≤ n) (p : Part) (ps : List Part) (next : Option ℕ) (all : Ends lo hi true from (p ∷ ps)) where
    longest-prefix : (found : List ℕ → Bool) (m : ℕ) → Prefix (longest found (p ∷ ps) m)
    longest-prefix found zero = tt
    longest-prefix found (suc m) = by_test Prefix (fits found (take (suc m) (p ∷ ps)))
        (λ _. ends-take lo hi true from (suc m) (p ∷ ps) all) (λ _. longest-prefix found m)

    all_parts_lem : Named (all_parts f is_name start (p ∷ ps) next hi)
    all_parts_lem = all_fine _ p ps
        (by_test (λ k. has_form (token k (name_of (p ∷ ps))) ≡ true) (f.type_name && member (new_name (texts (p ∷ ps))) type_names) (λ _. refl)
        (λ _. by_test (λ k. has_form (token k (name_of (p ∷ ps))) ≡ true) (member (new_name (texts (p ∷ ps))) temporal_names && is 0x28 next) (λ _. refl) (λ _. refl)))
        all

    by_prefix_lem : (o : Option (List Part)) → Prefix o → Named (by_prefix f is_name start (p ∷ ps) next hi o)
    by_prefix_lem None g = all_parts_lem
    by_prefix_lem (Some []) g = absurd g
    by_prefix_lem (Some (q ∷ qs)) g = prefix_fine _ q qs refl g

    by_in_lem : (o : Option (List Part)) → EndsIf lo hi true from o → Named (by_in f is_name start (p ∷ ps) next hi o)
    by_in_lem None g = by_test Named (is 0x3A next) (λ _. all_fine _ p ps refl all)
        (λ _. by_prefix_lem (longest (is_found f is_name) (p ∷ ps) (length (p ∷ ps))) (longest-prefix (is_found f is_name) (length (p ∷ ps))))
    by_in_lem (Some []) g = over n lo start refl refl refl begins
    by_in_lem (Some (q ∷ qs)) g = prefix_fine _ q qs refl g

    cut_named : Named (cut_name f is_name start (p ∷ ps) next hi)
    cut_named = by_test Named (starts_with (codes "item") (p ∷ ps)) (λ _. prefix_fine _ p [] refl (ends-take lo hi true from 1 (p ∷ ps) all))
        (λ _. by_in_lem (cond f.till_in (before_in (p ∷ ps)) None) (by_test (EndsIf lo hi true from) f.till_in (λ _. ends-before_in lo hi true from (p ∷ ps) all) (λ _. tt)))

module _ (t : List ℕ) (k k' : ℕ) (enough : length t < k) (enough' : length t < k') (f : Flags) (is_name : List ℕ → Bool) (i : ℕ) where
  cut_walked : (ps : List Part) (hi : ℕ) → i ≤ length t → 0 < length ps → hi ≤ length t → Ends (suc i) hi true i ps → Fine (length t) (suc i) (cut_name f is_name i ps (cell_at t hi) hi).read (cut_name f is_name i ps (cell_at t hi) hi).used
  cut_walked [] hi b l h e = absurd (not-suc-le-zero l)
  cut_walked (p ∷ ps) hi b l h e = cut_named (length t) (suc i) hi i h f is_name i b p ps (cell_at t hi) e

  pub names_read : holds is_name_part (cell_at t i) ≡ true → Ensures t (far t) (λ o. Fine (length t) (suc i) o.read o.used) (read_name k f is_name i) (read_name k' f is_name i)
  names_read h =
      let l = cell_there is_name_part t i h in
      binds (walks t k k' enough enough' (suc i) k k' true i i (omega arith, λ y _. absurd (true≢false y)) (omega arith) (omega arith) (omega arith) (omega arith))
      (λ r s. let w = s.within in asks (omega arith) (answers (cut_walked r.0 r.1 (omega arith) (s.begun h) w s.parts)))

-- What a walk over a name passed has a value that is no longer than the text, and so has each prefix of it.
room_of : (lo hi n from : ℕ) (ps : List Part) → Ends lo hi true from ps → hi ≤ n → length (new_name (texts ps)) ≤ n
room_of lo hi n from [] e h = omega arith
room_of lo hi n from (p ∷ ps) e h = let z = at-end lo hi true from p ps e in omega (arith, z.1, z.2)

pub walk-room : (t : List ℕ) (k : ℕ) → length t < k → (i : ℕ) → holds is_name_part (cell_at t i) ≡ true → {ps : List Part} {end q : ℕ} → Sees {A = List Part × ℕ} t (walk k k i) (ps, end) q
    → (0 < length ps) × ((m : ℕ) → length (new_name (texts (take m ps))) ≤ length t)
walk-room t k enough i h {ps} {end} g =
    let l = cell_there is_name_part t i h in
    let w = walks t k k enough enough (suc i) k k true i i (omega arith, λ y _. absurd (true≢false y)) (omega arith) (omega arith) (omega arith) (omega arith) in
    let s = subst (Walked t k k enough enough (suc i) true i i) (ap (λ x. x.answer) g.same) w.holding in
    (s.begun h, λ m. room_of (suc i) end (length t) i (take m ps) (ends-take (suc i) end true i m ps s.parts) s.within)
