-- The window grows by one cell at its end, as the loop fills it, and is what the reading gives, with its reach.
use Rattle.std.specs.Prelude.{Some}
use mathlib.Core.Path.{◌≡◌, refl, sym, ap, ◌∙◌}
use mathlib.Core.Bool.{Bool, true, false, ◌||◌}
use mathlib.Core.List.{List}
use Prim.Native.Nat.{ℕ, zero, suc, ◌+◌, ◌≤◌, ◌<◌, max}
use native.Mathlib.Nat.{add-zero, not-suc-le-zero}
use native.Mathlib.Omega.{arith}
use lib.Dec.{eqb, leb, ltb}
use borrow.Author.Tests.{leb-true, eqb-true, le-ltb}
use lib.ListN.{length, get_or, take, drop, length-take, length-drop}
use Rattle.std.proofs.lemmas.List.{ext_get_or, get_or-take, get_or-drop}
use Rattle.reading.specs.Look.{cell_at}
use Rattle.reading.specs.Goes.{Goes}
use Rattle.reading.proofs.Test.{both, below}
use Rattle.reading.proofs.Cell.{cell_in, cell_out}
use Rattle.reading.proofs.Going.{begins, asks, takes_on, finds}
use Rattle.text.specs.Ranges.{to, within, among}
use Rattle.text.specs.Classes.{is_whitespace}
use Rattle.lexer.specs.Window.{shown, window}
use Rattle.lexer.specs.Shown.{window_of}

pub shown-end : (t : List ℕ) (i : ℕ) → length t ≤ i → 0x20 ≡ shown (cell_at t i)
shown-end t i h = rw (cell_out t i h)

module _ (t : List ℕ) (i : ℕ) {x : ℕ} (h : i < length t) (e : x ≡ get_or t i 0) {b : Bool} (p : b ≡ is_whitespace x) where
  pub shown_space : b ≡ true → 0x20 ≡ shown (cell_at t i)
  shown_space f = rw (cell_in t i h, ← e, ← p, f)

  pub shown_self : b ≡ false → x ≡ shown (cell_at t i)
  shown_self f = rw (cell_in t i h, ← e, ← p, f)

plain_self : (c : ℕ) → within (to 0x20 0x84) c ≡ true → shown (Some c) ≡ c
unfolding is_whitespace among
plain_self c h =
    let b = both (leb 0x20 c) _ h in
    let k = below (λ x. ltb x 0x20 || eqb (shown (Some x)) x) 0x85 refl c (omega (arith, leb-true c 0x84 b.1)) in
    eqb-true _ _ (rw (le-ltb c 0x20 (leb-true 0x20 c b.0)) at k)

pub shown-plain : (t : List ℕ) (i : ℕ) {x : ℕ} → i < length t → x ≡ get_or t i 0 → {b : Bool} → b ≡ within (to 0x20 0x84) x → b ≡ true → x ≡ shown (cell_at t i)
shown-plain t i {x} h e p f = rw (cell_in t i h, ← e) (sym (plain_self x (sym p ∙ f)))

window-length : (k : ℕ) (t : List ℕ) (i : ℕ) → length (window_of k t i) ≡ k
unfolding window_of
window-length zero t i = refl
window-length (suc k) t i = ap suc (window-length k t (suc i))

window-at : (k : ℕ) (t : List ℕ) (i j : ℕ) → j < k → get_or (window_of k t i) j 0 ≡ shown (cell_at t (i + j))
unfolding window_of
window-at zero t i j h = absurd (not-suc-le-zero h)
window-at (suc k) t i zero h = rw add-zero
window-at (suc k) t i (suc j) h = let e : i + suc j ≡ suc i + j = omega arith in rw e (window-at k t (suc i) j (omega arith))

-- Twelve cells, each as the window shows it.
pub window_is : (t : List ℕ) (i : ℕ) {w : List ℕ} → length w ≡ 12 → ((j : ℕ) → j < 12 → get_or w j 0 ≡ shown (cell_at t (i + j))) → w ≡ window_of 12 t i
window_is t i {w} n f = ext_get_or 0 w (window_of 12 t i) (n ∙ sym (window-length 12 t i)) (λ j h. let l : j < 12 = omega arith in f j l ∙ sym (window-at 12 t i j l))

-- Plain characters, copied as they stand.
pub window_copied : (t : List ℕ) (i : ℕ) {w : List ℕ} → length w ≡ 12 → w ≡ take 12 (drop i t) → ((j : ℕ) → j < 12 → within (to 0x20 0x84) (get_or w j 0) ≡ true) → w ≡ window_of 12 t i
window_copied t i {w} n e f =
    let l : i + 12 ≤ length t = omega (arith, n, ap length e, length-take 12 (drop i t), length-drop i t) in
    window_is t i n (λ j h. shown-plain t (i + j) (omega arith) (ap (λ v. get_or v j 0) e ∙ get_or-take 12 (drop i t) j 0 h ∙ get_or-drop i t j 0) refl (f j h))

-- The reading gives it, from any reach so far.
module _ (t : List ℕ) where
  abbrev Seen : ℕ → ℕ → ℕ → Type 0
  Seen k r i = Goes t r (window k i) (window_of k t i) (max r (i + k))

  more_seen : (k r i : ℕ) → Seen k (max r (i + 1)) (suc i) → Seen (suc k) r i
  unfolding window window_of
  more_seen k r i g =
      let z : max (max r (i + 1)) (suc i + k) ≡ max r (i + suc k) = omega arith in
      rw z at (finds (takes_on g _ (asks (begins t r (window (suc k) i)) (max r (i + 1)) refl)))

  rest-seen : (k r i : ℕ) → i ≤ r → Seen k r i
  unfolding window window_of
  rest-seen zero r i h = let z : max r (i + 0) ≡ r = omega arith in rw z (finds (begins t r (window 0 i)))
  rest-seen (suc k) r i h = more_seen k r i (rest-seen k (max r (i + 1)) (suc i) (omega arith))

  pub window-seen : (r i : ℕ) → Goes t r (window 12 i) (window_of 12 t i) (max r (i + 12))
  window-seen r i = more_seen 11 r i (rest-seen 11 (max r (i + 1)) (suc i) (omega arith))
