-- The facts of a reading, about the token reader: progress, within the text, used ≤ reach ≤ rest + 12, value no longer than used, and no trust in the fuel.
use Rattle.std.specs.Prelude.{Option, None, Some}
use mathlib.Core.Path.{◌≡◌, refl, sym, ap, ◌∙◌}
use mathlib.Core.Bool.{Bool, true, false, ◌&&◌, not, false≢true}
use mathlib.Core.List.{List, [], ◌∷◌}
use Prim.Native.Nat.{ℕ, zero, suc, ◌+◌, ◌≤◌, ◌<◌}
use native.Mathlib.Numerals.{add-one}
use native.Mathlib.Omega.{arith}
use lib.Dec.{ltb, eqb}
use borrow.Author.Tests.{ltb-true, not-true}
use lib.ListN.{length, take, get_or, length-take}
use Rattle.reading.specs.Codes.{codes}
use Rattle.reading.specs.Look.{cell_at, Look, Seen, run}
use Rattle.reading.specs.Cells.{holds}
use Rattle.reading.proofs.Test.{by_test, both, all_of}
use Rattle.reading.proofs.Reading.{locality}
use Rattle.reading.proofs.Cell.{cell_there, cell-take}
use Rattle.reading.proofs.Ensures.{Ensures, answers, asks, binds, tests}
use Rattle.text.specs.Limits.{max_chars}
use Rattle.text.specs.Ranges.{among}
use Rattle.text.specs.Classes.{is_whitespace, is_digit, is_name_start, is_name_part}
use Rattle.text.proofs.Scalars.{name_start-part}
use Rattle.names.specs.Same.{same}
use Rattle.lexer.specs.Flags.{Flags}
use Rattle.lexer.specs.Read.{token, Value, nothing, truth, number, chars, Outcome, value_cells, cells_of, ends, has_form}
use Rattle.lexer.specs.Window.{shown, window, Follow, anything, next, ahead, Row, words, symbols, taken, leads, is_followed, first_of}
use Rattle.lexer.specs.Token.{other_cases, cases, token_with, fuel, read_token}
use Rattle.lexer.proofs.Fine.{Fine, over, fine, lower}
use Rattle.lexer.proofs.SkipFacts.{far, blanks_pass, skips}
use Rattle.lexer.proofs.NumberFacts.{numbers_digit, numbers_point}
use Rattle.lexer.proofs.StringFacts.{strings}
use Rattle.lexer.proofs.NameFacts.{names_read}

-- What is shown passes a test that a space does not pass: then so does the cell.
pub shown-holds : (p : ℕ → Bool) (c : Option ℕ) → p 0x20 ≡ false → p (shown c) ≡ true → holds p c ≡ true
shown-holds p None e h = absurd (false≢true (sym e ∙ h))
shown-holds p (Some c) e h = by_test (λ z. p z ≡ true → p c ≡ true) (is_whitespace c) (λ _ h. absurd (false≢true (sym e ∙ h))) (λ _ h. h) h

-- Of a row: its word is not empty and has no space, and its value has the form of its type and no cells.
abbrev no_space : List ℕ → Bool
no_space xs = all_of (λ x. not (eqb x 0x20)) xs

abbrev is_bare : Value → Bool
is_bare nothing = true
is_bare (truth b) = true
is_bare (number b a s e) = false
is_bare (chars c) = false

bare_cells : (v : Value) → is_bare v ≡ true → length (value_cells v) ≡ 0
bare_cells nothing h = refl
bare_cells (truth b) h = refl
bare_cells (number b a s e) h = absurd (false≢true h)
bare_cells (chars c) h = absurd (false≢true h)

abbrev is_sound : Row → Bool
is_sound r = no_space r.word && (ltb 0 (length r.word) && (is_bare r.value && has_form (token r.type r.value)))

module _ (t : List ℕ) where
  -- A word without a space that leads the window stands in the text.
  abbrev Shows : ℕ → List ℕ → Type 0
  Shows i w = (word : List ℕ) → no_space word ≡ true → leads word w ≡ true → i ≤ length t → i + length word ≤ length t

  shows_nothing : (i : ℕ) → Shows i []
  shows_nothing i [] s h l = omega arith
  shows_nothing i (x ∷ xs) s h l = absurd (false≢true h)

  shows_more : (i : ℕ) (w : List ℕ) → Shows (suc i) w → Shows i (shown (cell_at t i) ∷ w)
  shows_more i w g [] s h l = omega arith
  shows_more i w g (x ∷ xs) s h l =
      let a = both (not (eqb x 0x20)) _ s in
      let b = both (eqb x (shown (cell_at t i))) _ h in
      let m = cell_there (eqb x) t i (shown-holds (eqb x) (cell_at t i) (not-true _ a.0) b.0) in
      omega (arith, g xs a.1 b.1 m)

  windows : (k i : ℕ) → i + k ≤ far t → Ensures t (far t) (Shows i) (window k i) (window k i)
  unfolding window
  windows zero i l = answers (shows_nothing i)
  windows (suc k) i l = asks (omega arith) (binds (windows k (suc i) (omega arith)) (λ w g. answers (shows_more i w g)))

  record Windowed (i : ℕ) (w : List ℕ) : Type 0 where
    shows : Shows i w
    first : get_or w 0 0 ≡ shown (cell_at t i)
    second : get_or w 1 0 ≡ shown (cell_at t (suc i))

  twelve : (i : ℕ) → i ≤ length t → Ensures t (far t) (Windowed i) (window 12 i) (window 12 i)
  unfolding window
  twelve i l = let s = windows 12 i (omega arith) in record { holding = record { shows = s.holding; first = refl; second = refl }; near = s.near; same = s.same }

  abbrev Fit : ℕ → Outcome → Type 0
  Fit lo o = Fine (length t) lo o.read o.used

  module _ (k k' : ℕ) (enough : length t < k) (enough' : length t < k') where
    follows : (n : Follow) (w : List ℕ) (m i : ℕ) → i + m ≤ length t → Ensures t (far t) (λ _. Unit) (is_followed k n w m i) (is_followed k' n w m i)
    follows anything w m i h = answers tt
    follows (next p) w m i h = answers tt
    follows (ahead p) w m i h = binds (blanks_pass t k k' enough enough' (i + m) h) (λ j d. let l = d.within in asks (omega arith) (answers tt))

    rows : (rs : List Row) (f : Flags) (w : List ℕ) (i : ℕ) {x x' : Look Outcome} → all_of is_sound rs ≡ true → i ≤ length t → Shows i w
        → Ensures t (far t) (Fit (suc i)) x x' → Ensures t (far t) (Fit (suc i)) (first_of k rs f w i x) (first_of k' rs f w i x')
    unfolding first_of
    rows [] f w i s h g o = o
    rows (r ∷ rs) f w i s h g o =
        let a = both (is_sound r) _ s in
        let b = both (no_space r.word) _ a.0 in
        let c = both (ltb 0 (length r.word)) _ b.1 in
        let d = both (is_bare r.value) _ c.1 in
        tests (taken r.when f && leads r.word w)
        (λ e. let m = g r.word b.0 (both (taken r.when f) _ e).1 h in binds (follows r.follow w (length r.word) i m) (λ ok _. tests ok
        (λ _. answers (fine (length t) (suc i) (i + length r.word) m (omega (arith, bare_cells r.value d.0)) (omega (arith, ltb-true 0 (length r.word) c.0)) d.1))
        (λ _. rows rs f w i a.1 h g o)))
        (λ _. rows rs f w i a.1 h g o)

    module _ (f : Flags) (is_name : List ℕ → Bool) (w : List ℕ) (i : ℕ) (within : i ≤ length t) (win : Windowed i w) where
      other_cases_lem : Ensures t (far t) (Fit (suc i)) (other_cases k f is_name w i) (other_cases k' f is_name w i)
      unfolding is_digit is_name_start is_name_part among
      other_cases_lem = tests (is_digit (get_or w 0 0)) (λ h. binds (numbers_digit t k k' enough enough' i (shown-holds is_digit (cell_at t i) refl (rw win.first at h))) (λ r q. answers q))
          (λ _. tests (is_name_start (get_or w 0 0)) (λ h. names_read t k k' enough enough' f is_name i (shown-holds is_name_part (cell_at t i) refl (name_start-part (shown (cell_at t i)) (rw win.first at h))))
          (λ _. tests (same w (codes "            ")) (λ _. answers (over (length t) (suc i) i refl refl refl within)) (λ _. answers (over (length t) (suc i) i refl refl refl within))))

      all-cases : Ensures t (far t) (Fit (suc i)) (cases k f is_name w i) (cases k' f is_name w i)
      unfolding words symbols is_digit among
      all-cases = rows words f w i refl within win.shows
          (tests (eqb 0x2E (get_or w 0 0) && is_digit (get_or w 1 0))
          (λ h. let b = both (eqb 0x2E (get_or w 0 0)) _ h in
          binds (numbers_point t k k' enough enough' i (shown-holds (eqb 0x2E) (cell_at t i) refl (rw win.first at b.0)) (rw add-one (shown-holds is_digit (cell_at t (suc i)) refl (rw win.second at b.1)))) (λ r q. answers q))
          (λ _. tests (eqb 0x22 (get_or w 0 0))
          (λ h. let m = cell_there (eqb 0x22) t i (shown-holds (eqb 0x22) (cell_at t i) refl (rw win.first at h)) in
          binds (strings t (suc i) k k' [] (i + 1) (omega arith) (omega arith) (omega arith) (omega arith) (omega arith)) (λ r q. answers q))
          (λ _. rows symbols f w i refl within win.shows other_cases_lem)))

    tokens : (is_name : List ℕ → Bool) (f : Flags) → Ensures t (far t) (Fit 1) (token_with k is_name f) (token_with k' is_name f)
    unfolding token_with
    tokens is_name f = binds (skips t k k' enough enough') (λ i l. binds (twelve i l) (λ w win. binds (all-cases f is_name w i l win) (λ o q. answers (lower 1 q (omega arith)))))

-- The facts that every reading of a token has; n is the length of the text that is left.
pub record Sound (n : ℕ) (s : Seen Outcome) : Type 0 where
  pub in_text : s.answer.used ≤ n
  pub looked : s.answer.used ≤ s.reach
  pub near : s.reach ≤ n + 12
  pub short : length (cells_of s.answer.read) ≤ s.answer.used
  pub onward : ends s.answer.read ≡ false → 0 < s.answer.used
  pub formed : has_form s.answer.read ≡ true

module _ (is_name : List ℕ → Bool) (f : Flags) (t : List ℕ) (limit : length t ≤ max_chars) where
  facts : Fine (length t) 1 (run t (read_token is_name f)).answer.read (run t (read_token is_name f)).answer.used
  facts = (tokens t fuel fuel (omega arith) (omega arith) is_name f).holding

  -- Within the limits more fuel changes no reading, so that its number need not be trusted.
  pub any_fuel : (k : ℕ) → fuel ≤ k → run t (token_with k is_name f) ≡ run t (read_token is_name f)
  any_fuel k h = (tokens t k fuel (omega arith) (omega arith) is_name f).same 0

-- What a token used it has looked at: over the text cut at its reach it reads the same.
used_looked : (is_name : List ℕ → Bool) (f : Flags) (t : List ℕ) → length t ≤ max_chars → (run t (read_token is_name f)).answer.used ≤ (run t (read_token is_name f)).reach
used_looked is_name f t limit =
    let a = (run t (read_token is_name f)).reach in
    let e = locality t (take a t) 0 (read_token is_name f) (cell-take a t) in
    let l = length-take a t in
    omega (arith, ap (λ s. s.answer.used) e, (facts is_name f (take a t) (omega arith)).in_text)

pub sound : (is_name : List ℕ → Bool) (f : Flags) (t : List ℕ) → length t ≤ max_chars → Sound (length t) (run t (read_token is_name f))
sound is_name f t limit = let w = facts is_name f t limit in record {
  in_text = w.in_text;
  looked = used_looked is_name f t limit;
  near = (tokens t fuel fuel (omega arith) (omega arith) is_name f).near;
  short = w.short;
  onward = w.onward;
  formed = w.formed;
}
