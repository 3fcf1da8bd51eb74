-- Skipping in code follows the reading with a bound on its reach, which the window will cover.
use Rattle.std.specs.Prelude.{None, Some}
use mathlib.Core.Path.{◌≡◌, refl, sym, ◌∙◌, subst}
use mathlib.Core.Bool.{Bool, true, false, cond, ◌&&◌}
use mathlib.Core.List.{List}
use Prim.Native.Nat.{ℕ, suc, ◌+◌, ◌-◌, ◌≤◌, ◌<◌}
use native.Mathlib.Omega.{arith}
use lib.Dec.{eqb}
use lib.ListN.{length}
use Rattle.reading.specs.Look.{cell_at, Look, done, ask, ◌>>=◌}
use Rattle.reading.specs.Cells.{maybe, is}
use Rattle.reading.specs.Goes.{Sees, Reads}
use Rattle.reading.specs.Span.{gather}
use Rattle.reading.proofs.Test.{both}
use Rattle.reading.proofs.Cell.{cell_in, cell_out, cell_there}
use Rattle.reading.proofs.Passed.{Passed}
use Rattle.reading.proofs.Going.{begins, takes, finds, sees_gather, Going, start, wider, farther, exactly, looks, by, ends}
use Rattle.text.specs.Limits.{max_chars}
use Rattle.text.specs.Classes.{is_whitespace}
use Rattle.lexer.specs.Skip.{is_in_line, block_end, blanks, comment, skip_from, skip}
use Rattle.lexer.specs.Token.{fuel}
use Rattle.lexer.specs.Answers.{BlockEnds, Commented}

-- The whitespace that code has passed is what the reading passes.
pub sees_blanks : {t : List ℕ} {i j : ℕ} → Passed is_whitespace t i j → length t ≤ max_chars → Sees t (blanks fuel i) j (j + 1)
sees_blanks {t} {i} {j} d small = finds (takes (sees_gather d fuel (omega arith)) _ (begins t 0 (blanks fuel i)) (j + 1) (omega arith))

-- One cell further in a block comment, found, or at the end.
module _ {t : List ℕ} {w : Look ℕ} (i m : ℕ) (g : Going t w (block_end (suc m) i) (i + 1)) where
  module _ (h : i < length t) where
    here : Going t w (cond (is 0x2A (cell_at t i)) (ask (i + 1) (λ d. cond (is 0x2F d) (done (i + 2)) (block_end m (i + 1)))) (block_end m (i + 1))) (i + 1)
    unfolding block_end
    here = rw (cell_in t i h) (rw (cell_in t i h) at (looks g (i + 1) (omega arith) (omega arith)))

    two : is 0x2A (cell_at t i) ≡ true → Going t w (cond (is 0x2F (cell_at t (i + 1))) (done (i + 2)) (block_end m (i + 1))) (i + 2)
    two a = looks (rw a at here) (i + 2) (omega arith) (omega arith)

    block_more : (a b : Bool) → is 0x2A (cell_at t i) ≡ a → is 0x2F (cell_at t (i + 1)) ≡ b → a && b ≡ false → Going t w (block_end m (i + 1)) (i + 2)
    block_more true b p q e = rw (q ∙ e) at (two p)
    block_more false b p q e = wider (rw p at here) (i + 2) (omega arith)

    block_found : is 0x2A (cell_at t i) && is 0x2F (cell_at t (i + 1)) ≡ true → Reads t w (i + 2) (i + 2)
    block_found e = let b = both (is 0x2A (cell_at t i)) _ e in ends (rw b.1 at (two b.0))

  block_none : length t ≤ i → Reads t w i (i + 1)
  unfolding block_end
  block_none h = ends (rw (cell_out t i h) at (looks g (i + 1) (omega arith) (omega arith)))

-- The loop through a block comment's inside, which began at `from`, stands at i.
pub record Closing (t : List ℕ) (from i : ℕ) : Type 0 where
  pub on : from ≤ i
  pub within : i ≤ length t
  pub going : Going t (block_end fuel from) (block_end (fuel - (i - from)) i) (i + 1)

pub closing_none : (t : List ℕ) (i : ℕ) → i ≤ length t → Closing t i i
closing_none t i h =
    let e : fuel - (i - i) ≡ fuel = omega arith in
    record { on = omega arith; within = h; going = rw e (wider (start t (block_end fuel i)) (i + 1) (omega arith)) }

module _ {t : List ℕ} {from i : ℕ} (k : Closing t from i) (small : length t ≤ max_chars) where
  opened : Going t (block_end fuel from) (block_end (suc (fuel - (i + 1 - from))) i) (i + 1)
  opened = let n = k.within in let l = k.on in let e : fuel - (i - from) ≡ suc (fuel - (i + 1 - from)) = omega arith in rw e at k.going

  module _ (h : i < length t) {b : Bool} (e : b ≡ is 0x2A (cell_at t i) && is 0x2F (cell_at t (i + 1))) where
    pub closing_more : b ≡ false → Closing t from (i + 1)
    closing_more f = let n = k.on in record {
      on = omega arith;
      within = omega arith;
      going = wider (block_more i _ opened h _ _ refl refl (sym e ∙ f)) (i + 1 + 1) (omega arith);
    }

    pub closing_found : b ≡ true → BlockEnds t from (i + 2)
    closing_found f =
        let n = k.on in
        let l = cell_there (eqb 0x2F) t (i + 1) (both (is 0x2A (cell_at t i)) _ (sym e ∙ f)).1 in
        record { from = omega arith; within = omega arith; reads = farther (block_found i _ opened h (sym e ∙ f)) (i + 2 + 1) (omega arith) }

  pub closing_end : length t ≤ i → BlockEnds t from i
  closing_end h = record { from = k.on; within = k.within; reads = block_none i _ opened h }

-- A comment at i, by its first two characters.
module _ (t : List ℕ) (i : ℕ) where
  looked : Going t (comment fuel i) (cond (is 0x2F (cell_at t i) && is 0x2F (cell_at t (i + 1)))
      (gather is_in_line fuel (i + 2) >>= (λ r. done (Some r.1)))
      (cond (is 0x2F (cell_at t i) && is 0x2A (cell_at t (i + 1))) (block_end fuel (i + 2) >>= (λ j. done (Some j))) (done None))) (i + 2)
  looked = looks (looks (start t (comment fuel i)) (i + 1) (omega arith) (omega arith)) (i + 2) (omega arith) (omega arith)

  module _ (small : length t ≤ max_chars) {a : Bool} (p : a ≡ is 0x2F (cell_at t i)) where
    pub comment_none : a ≡ false → Commented t i None
    comment_none f = record { reads = ends (rw (sym p ∙ f) at looked); behind = tt }

    module _ (f : a ≡ true) {b : Bool} (q : b ≡ is 0x2F (cell_at t (i + 1))) where
      pub comment-line : b ≡ true → {j : ℕ} → Passed is_in_line t (i + 2) j → Commented t i (Some j)
      comment-line g {j} l =
          let n = l.from in
          record {
            reads = ends (by (exactly (sees_gather l fuel (omega arith))) _ (rw (sym p ∙ f, sym q ∙ g) at looked) (j + 2) (omega arith) (omega arith));
            behind = (omega arith, l.within);
          }

      module _ (g : b ≡ false) {c : Bool} (r : c ≡ is 0x2A (cell_at t (i + 1))) where
        pub comment_block : c ≡ true → {j : ℕ} → BlockEnds t (i + 2) j → Commented t i (Some j)
        comment_block h {j} k =
            let n = k.from in
            record {
              reads = ends (by k.reads _ (rw (sym p ∙ f, sym q ∙ g, sym r ∙ h) at looked) (j + 2) (omega arith) (omega arith));
              behind = (omega arith, k.within);
            }

        pub comment_other : c ≡ false → Commented t i None
        comment_other h = record { reads = ends (rw (sym p ∙ f, sym q ∙ g, sym r ∙ h) at looked); behind = tt }

-- The loop over comments stands at i, behind whitespace, with turns left for more than is left of the text.
pub record Skipping (t : List ℕ) (i : ℕ) : Type 0 where
  pub inside : i ≤ length t
  pub left : ℕ
  pub enough : length t - i < suc left
  pub going : Going t (skip fuel) (comment fuel i >>= (λ c. maybe c (done i) (λ e. skip_from fuel left e))) (i + 2)

module _ {t : List ℕ} (small : length t ≤ max_chars) where
  -- Whitespace from i to j is passed, with a turn of those left.
  turned : {i j : ℕ} (left : ℕ) → Going t (skip fuel) (skip_from fuel (suc left) i) (i + 2) → Passed is_whitespace t i j → Going t (skip fuel) (comment fuel j >>= (λ c. maybe c (done j) (λ e. skip_from fuel left e))) (j + 2)
  unfolding skip_from
  turned left g d = let n = d.from in by (exactly (sees_blanks d small)) _ g (_ + 2) (omega arith) (omega arith)

  pub skipping_none : {j : ℕ} → Passed is_whitespace t 0 j → Skipping t j
  skipping_none d =
      let e : fuel ≡ suc (fuel - 1) = omega arith in
      let g = subst (λ n. Going t (skip fuel) (skip_from fuel n 0) 0) e (start t (skip fuel)) in
      record { inside = d.within; left = fuel - 1; enough = omega arith; going = turned _ (wider g 2 (omega arith)) d }

  module _ {i : ℕ} (s : Skipping t i) where
    pub skipping_end : Commented t i None → Reads t (skip fuel) i (i + 2)
    skipping_end c = ends (by c.reads _ s.going (i + 2) (omega arith) (omega arith))

    pub skipping_more : {e j : ℕ} → Commented t i (Some e) → Passed is_whitespace t e j → Skipping t j
    skipping_more {e} c d =
        let b = c.behind in let f = d.from in let n = s.enough in
        let z : s.left ≡ suc (s.left - 1) = omega arith in
        let g = by c.reads _ s.going (e + 2) (omega arith) (omega arith) in
        record { inside = d.within; left = s.left - 1; enough = omega arith; going = turned _ (rw z at g) d }
