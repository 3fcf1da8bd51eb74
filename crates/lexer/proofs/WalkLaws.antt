-- The walk as a relation, which code steps along and which gives the reading; its parts are the prefix of their number.
use Rattle.std.specs.Prelude.{Result, Ok, Err}
use mathlib.Core.Path.{◌≡◌, refl, sym, ap, ◌∙◌, subst}
use mathlib.Core.Bool.{Bool, true, false, cond, false≢true}
use mathlib.Core.List.{List, [], ◌∷◌, ◌++◌, append_assoc, append-nil}
use Prim.Native.Nat.{ℕ, zero, suc, ◌+◌, ◌-◌, ◌≤◌, ◌<◌}
use native.Mathlib.Nat.{not-suc-le-zero}
use native.Mathlib.Numerals.{add-one}
use native.Mathlib.Omega.{arith}
use lib.ListN.{length, get_or, take, length-append}
use Rattle.reading.specs.Look.{cell_at}
use Rattle.reading.specs.Cells.{holds}
use Rattle.reading.specs.Span.{past, part}
use Rattle.reading.specs.Goes.{Sees}
use Rattle.reading.proofs.Test.{by_test, by_order}
use Rattle.reading.proofs.Cell.{cell_in, cell_out, cell_there, holds_in}
use Rattle.reading.proofs.Passed.{Passed, passed, passed_more, past_out, part_none, part_more}
use Rattle.reading.proofs.Going.{begins, asks, takes, finds, sees_from, sees_gather}
use Rattle.text.specs.Limits.{max_chars}
use Rattle.text.specs.Classes.{is_whitespace, is_name_part, is_symbol}
use Rattle.lexer.specs.Parts.{Part, walk}
use Rattle.lexer.specs.Token.{fuel}
use Rattle.lexer.specs.Places.{here_of, start_of, next_of, between, leads, end_of, Placed, prefix, Counted}

-- The walk from i on passes the parts ps and ends at e.
pub data Walk (t : List ℕ) : ℕ → List Part → ℕ → Type 0 where
  ends : {i : ℕ} → holds is_name_part (cell_at t i) ≡ false → holds is_symbol (cell_at t i) ≡ false → holds is_whitespace (cell_at t i) ≡ false → Walk t i [] i
  word : {i j e : ℕ} {ps : List Part} → holds is_name_part (cell_at t i) ≡ true → Passed is_name_part t i j → Walk t j ps e → Walk t i (between t i j ∷ ps) e
  symbol : {i e : ℕ} {ps : List Part} → holds is_name_part (cell_at t i) ≡ false → holds is_symbol (cell_at t i) ≡ true → Walk t (i + 1) ps e → Walk t i (between t i (i + 1) ∷ ps) e
  space : {i j e : ℕ} {ps : List Part} → holds is_name_part (cell_at t i) ≡ false → holds is_symbol (cell_at t i) ≡ false → holds is_whitespace (cell_at t i) ≡ true → Passed is_whitespace t i j → Walk t j ps e → Walk t i ps e

walk_on : {t : List ℕ} {i e : ℕ} {ps : List Part} → Walk t i ps e → i ≤ e
walk_on (ends a b c) = omega arith
walk_on (word a d w) = let l = walk_on w in let n = d.from in omega arith
walk_on (symbol a b w) = let l = walk_on w in omega arith
walk_on (space a b c d w) = let l = walk_on w in let n = d.from in omega arith

part-one : (t : List ℕ) (i : ℕ) → i < length t → part t i (i + 1) ≡ get_or t i 0 ∷ []
part-one t i h = part_more t i (i + 1) h (omega arith) ∙ rw (add-one, part_none t (suc i))

-- The reading gives those parts and that end, and has looked at it.
module _ (t : List ℕ) (gathering : ℕ) (small : length t < gathering) where
  walked : {i e : ℕ} {ps : List Part} → Walk t i ps e → (f : ℕ) → length t - i < f → Sees {A = List Part × ℕ} t (walk gathering f i) (ps, e) (e + 1)
  unfolding walk
  walked w zero h = absurd (not-suc-le-zero h)
  walked {i} (ends a b c) (suc f) h = by_order i (length t)
      (λ l. finds (rw (holds_in is_name_part t i l ∙ a, holds_in is_symbol t i l ∙ b, holds_in is_whitespace t i l ∙ c) at (rw (cell_in t i l) at (asks (begins t 0 (walk gathering (suc f) i)) (i + 1) (omega arith)))))
      (λ l. finds (rw (cell_out t i l) at (asks (begins t 0 (walk gathering (suc f) i)) (i + 1) (omega arith))))
  walked {i} {e} (word {j = j} a d w) (suc f) h =
      let l = cell_there is_name_part t i a in
      let u = passed_more d a in
      let v = walk_on w in
      let g = rw (holds_in is_name_part t i l ∙ a) at (rw (cell_in t i l) at (asks (begins t 0 (walk gathering (suc f) i)) (i + 1) (omega arith))) in
      let k = takes (sees_gather d gathering (omega arith)) _ g (j + 1) (omega arith) in
      finds (takes (walked {i = j} w f (omega arith)) _ k (e + 1) (omega arith))
  walked {i} {e} (symbol a b w) (suc f) h =
      let l = cell_there is_symbol t i b in
      let v = walk_on w in
      let g = rw (holds_in is_name_part t i l ∙ a, holds_in is_symbol t i l ∙ b) at (rw (cell_in t i l) at (asks (begins t 0 (walk gathering (suc f) i)) (i + 1) (omega arith))) in
      rw (part-one t i l) (finds (takes (walked {i = i + 1} w f (omega arith)) _ g (e + 1) (omega arith)))
  walked {i} {e} (space {j = j} a b c d w) (suc f) h =
      let l = cell_there is_whitespace t i c in
      let u = passed_more d c in
      let v = walk_on w in
      let g = rw (holds_in is_name_part t i l ∙ a, holds_in is_symbol t i l ∙ b, holds_in is_whitespace t i l ∙ c) at (rw (cell_in t i l) at (asks (begins t 0 (walk gathering (suc f) i)) (i + 1) (omega arith))) in
      let k = takes (sees_gather d gathering (omega arith)) _ g (j + 1) (omega arith) in
      sees_from k (walked {i = j} w f (omega arith)) (e + 1) (omega arith)

-- What the next part does to a walk from behind it.
abbrev Step : List ℕ → ℕ → Result (ℕ × ℕ) ℕ → Type 0
Step t i (Ok p) = (ps : List Part) (x : ℕ) → Walk t p.1 ps x → Walk t i (between t p.0 p.1 ∷ ps) x
Step t i (Err e) = Walk t i [] e

module _ (t : List ℕ) where
  abbrev Letter : ℕ → Bool
  Letter i = holds is_name_part (cell_at t i)

  abbrev Symbol : ℕ → Bool
  Symbol i = holds is_symbol (cell_at t i)

  here_step : (i : ℕ) → i ≤ length t → (Letter i ≡ false → Symbol i ≡ false → holds is_whitespace (cell_at t i) ≡ false) → Step t i (here_of t i)
  unfolding here_of
  here_step i h c = by_test (Step t i) (Letter i) (λ a ps x w. word a (passed is_name_part t i h) w)
      (λ a. by_test (Step t i) (Symbol i) (λ b ps x w. symbol a b w) (λ b. ends a b (c a b)))

  behind : (i j : ℕ) → Letter i ≡ false → Symbol i ≡ false → holds is_whitespace (cell_at t i) ≡ true → Passed is_whitespace t i j → (n : Result (ℕ × ℕ) ℕ) → Step t j n → Step t i n
  behind i j a b c d (Ok p) k = λ ps x w. space a b c d (k ps x w)
  behind i j a b c d (Err e) k = space a b c d k

  spaced : (i : ℕ) → i ≤ length t → Letter i ≡ false → Symbol i ≡ false → Step t i (here_of t (past is_whitespace t i))
  spaced i h a b = go (holds is_whitespace (cell_at t i)) refl
    where
      go : (c : Bool) → holds is_whitespace (cell_at t i) ≡ c → Step t i (here_of t (past is_whitespace t i))
      go true c =
          let d = passed is_whitespace t i h in
          behind i (past is_whitespace t i) a b c d (here_of t (past is_whitespace t i)) (here_step (past is_whitespace t i) d.within (λ _ _. d.out))
      go false c = rw (past_out is_whitespace t i c) (here_step i h (λ _ _. c))

  next_step : (i : ℕ) → i ≤ length t → Step t i (next_of t i)
  unfolding start_of
  next_step i h = by_test Goes (Letter i) (λ a. here_step i h (λ b. absurd (false≢true (sym b ∙ a))))
      (λ a. by_test Goes (Symbol i) (λ b. here_step i h (λ _ c. absurd (false≢true (sym c ∙ b)))) (λ b. spaced i h a b))
    where
      Goes : ℕ → Type 0
      Goes j = Step t i (here_of t j)

-- The walk's parts are the prefix of their number.
module _ (t : List ℕ) where
  next_word : (i j : ℕ) → holds is_name_part (cell_at t i) ≡ true → Passed is_name_part t i j → next_of t i ≡ Ok (i, j)
  unfolding here_of start_of
  next_word i j a d = rw (a) (rw (a, d.end))

  next_symbol : (i : ℕ) → holds is_name_part (cell_at t i) ≡ false → holds is_symbol (cell_at t i) ≡ true → next_of t i ≡ Ok (i, i + 1)
  unfolding here_of start_of
  next_symbol i a b = rw (a, b) (rw (a, b))

  start_space : (i : ℕ) → holds is_name_part (cell_at t i) ≡ false → holds is_symbol (cell_at t i) ≡ false → start_of t i ≡ past is_whitespace t i
  unfolding start_of
  start_space i a b = rw (a, b)

  start_here : (j : ℕ) → holds is_whitespace (cell_at t j) ≡ false → start_of t j ≡ j
  unfolding start_of
  start_here j c = rw (past_out is_whitespace t j c) (same (holds is_name_part (cell_at t j)) (holds is_symbol (cell_at t j)))
    where
      same : (a b : Bool) → cond a j (cond b j j) ≡ j
      same true b = refl
      same false true = refl
      same false false = refl

  next_space : (i j : ℕ) → holds is_name_part (cell_at t i) ≡ false → holds is_symbol (cell_at t i) ≡ false → Passed is_whitespace t i j → next_of t i ≡ next_of t j
  next_space i j a b d = ap (here_of t) (start_space i a b ∙ d.end ∙ sym (start_here j d.out))

  prefix_same : (n i j : ℕ) → next_of t i ≡ next_of t j → prefix t n i ≡ prefix t n j
  unfolding prefix
  prefix_same zero i j q = refl
  prefix_same (suc n) i j q = rw q

  walk-prefix : {i e : ℕ} {ps : List Part} → Walk t i ps e → ps ≡ prefix t (length ps) i
  unfolding prefix
  walk-prefix (ends a b c) = refl
  walk-prefix {i} (word {j = j} {ps = ps} a d w) = rw (next_word i j a d) (ap (between t i j ∷◌) (walk-prefix w))
  walk-prefix {i} (symbol {ps = ps} a b w) = rw (next_symbol i a b) (ap (between t i (i + 1) ∷◌) (walk-prefix w))
  walk-prefix {i} (space {j = j} {ps = ps} a b c d w) = walk-prefix w ∙ sym (prefix_same (length ps) i j (next_space i j a b d))

  take-leads : (m n : ℕ) (x : Result (ℕ × ℕ) ℕ) → ((e : ℕ) → take m (prefix t n e) ≡ prefix t m e) → take (suc m) (leads t x (prefix t n (end_of x))) ≡ leads t x (prefix t m (end_of x))
  take-leads m n (Ok p) f = ap (between t p.0 p.1 ∷◌) (f p.1)
  take-leads m n (Err e) f = refl

  -- A shorter prefix is the front of a longer one.
  pub prefix-take : (m n i : ℕ) → m ≤ n → take m (prefix t n i) ≡ prefix t m i
  unfolding prefix
  prefix-take zero n i h = refl
  prefix-take (suc m) zero i h = absurd (omega arith)
  prefix-take (suc m) (suc n) i h = take-leads m n (next_of t i) (λ e. prefix-take m n e (omega arith))

  here_placed : (i : ℕ) → i ≤ length t → Placed t i (here_of t i)
  unfolding here_of
  here_placed i h = by_test (Placed t i) (holds is_name_part (cell_at t i)) (λ a. let d = passed is_name_part t i h in (omega arith, passed_more d a, d.within))
      (λ _. by_test (Placed t i) (holds is_symbol (cell_at t i)) (λ b. let l = cell_there is_symbol t i b in (omega arith, omega arith, omega arith)) (λ _. (omega arith, h)))

  start-within : (i : ℕ) → i ≤ length t → (i ≤ start_of t i) × (start_of t i ≤ length t)
  unfolding start_of
  start-within i h = by_test In (holds is_name_part (cell_at t i)) (λ _. (omega arith, h)) (λ _. by_test In (holds is_symbol (cell_at t i)) (λ _. (omega arith, h)) (λ _. let d = passed is_whitespace t i h in (d.from, d.within)))
    where
      In : ℕ → Type 0
      In n = (i ≤ n) × (n ≤ length t)

  further : (i j : ℕ) → i ≤ j → (n : Result (ℕ × ℕ) ℕ) → Placed t j n → Placed t i n
  further i j h (Ok x) p = (omega (arith, p.0), p.1, p.2)
  further i j h (Err e) p = (omega (arith, p.0), p.1)

  pub next_placed : (i : ℕ) → i ≤ length t → Placed t i (next_of t i)
  next_placed i h = let s = start-within i h in further i (start_of t i) s.0 (next_of t i) (here_placed (start_of t i) s.1)

-- A loop along a name, which began at `from`, stands at i behind n parts.
pub record Passing (t : List ℕ) (from i n : ℕ) : Type 0 where
  pub parts : List Part
  pub count : n ≡ length parts
  pub on : from + n ≤ i
  pub within : i ≤ length t
  pub so : (ps : List Part) (x : ℕ) → Walk t i ps x → Walk t from (parts ++ ps) x

pub passing_none : (t : List ℕ) (i : ℕ) → i ≤ length t → Passing t i i 0
passing_none t i h = record { parts = []; count = refl; on = omega arith; within = h; so = λ ps x w. w }

module _ {t : List ℕ} {from i n : ℕ} (k : Passing t from i n) {x : Result (ℕ × ℕ) ℕ} (g : (x ≡ next_of t i) × Placed t i x) where
  met : {y : Result (ℕ × ℕ) ℕ} → x ≡ y → Step t i y
  met q = subst (Step t i) (sym g.0 ∙ q) (next_step t i k.within)

  pub passing_on : {p : ℕ × ℕ} → x ≡ Ok p → (i ≤ p.0) × (p.0 < p.1) × (p.1 ≤ length t)
  passing_on q = subst (Placed t i) q g.1

  pub passing_more : {p : ℕ × ℕ} → x ≡ Ok p → Passing t from p.1 (n + 1)
  passing_more {p} q =
      let b = passing_on q in
      let l = b.0 in let m = b.1 in let u = k.on in let c = k.count in
      record {
        parts = k.parts ++ between t p.0 p.1 ∷ [];
        count = rw length-append (omega arith);
        on = omega arith;
        within = b.2;
        so = λ ps x w. rw append_assoc (k.so (between t p.0 p.1 ∷ ps) x (met q ps x w));
      }

  pub passing_over : length t ≤ max_chars → {e : ℕ} → x ≡ Err e → Counted t from n e
  passing_over small {e} q =
      let w : Walk t from k.parts e = rw append-nil at (k.so [] e (met q)) in
      let b : Placed t i (Err e) = subst (Placed t i) q g.1 in
      let l = b.0 in let u = k.on in
      let c : k.parts ≡ prefix t n from = walk-prefix t w ∙ ap (λ m. prefix t m from) (sym k.count) in
      record {
        on = omega arith;
        within = b.1;
        count = rw (← c) (sym k.count);
        sees = rw c at (walked t fuel (omega arith) w fuel (omega arith));
      }
