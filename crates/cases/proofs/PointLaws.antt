-- Code points behind one another, and the cells of a text.
use mathlib.Core.Path.{◌≡◌, refl, sym, ◌∙◌}
use mathlib.Core.Bool.{Bool, true, false, cond}
use mathlib.Core.List.{List, [], ◌++◌}
use Prim.Native.Nat.{ℕ, zero, suc, ◌+◌, ◌≤◌, ◌<◌}
use borrow.Author.Tests.{lt-ltb, le-ltb}
use native.Mathlib.Omega.{arith}
use lib.Dec.{ltb}
use lib.ListN.{length, replicate}
use Rattle.reading.specs.Look.{cell_at}
use Rattle.reading.specs.Cells.{is}
use Rattle.reading.proofs.Test.{by_test}
use Rattle.cases.specs.Laid.{Lays}
use Rattle.cases.specs.Fields.{next_field, digits_end, number_at, times_at, times_end, code_point, code_point_end, goes_on, code_points, code_points_end, cells_at, cells_end}
use Rattle.cases.proofs.LaidLaws.{Still, still_all, still_more, still_none, lays_none}

-- A code point is the number before its times.
pub point : (l : List ℕ) (i : ℕ) {o : List ℕ} {s n : ℕ} → n ≡ number_at 16 l i → {e : ℕ} → e ≡ digits_end 16 l i → {t : ℕ} → t ≡ times_at l e → {f : ℕ} → f ≡ times_end l e → {r : ℕ} {o' : List ℕ} → Lays o s (replicate t n) r o' → Lays o s (code_point l i) r o' × (f ≡ code_point_end l i)
unfolding code_point code_point_end
point l i n e t f w = (rw (← e, ← t, ← n) w, rw (← e) f)

-- No code point ends before it begins.
pub point_up : (l : List ℕ) (i : ℕ) → i ≤ code_point_end l i
unfolding code_point_end
point_up l i = by_test (λ n. i ≤ n) (is 0x2a (cell_at l (digits_end 16 l i))) (λ _. omega arith) (λ _. omega arith)

module _ (l : List ℕ) (f i : ℕ) where
  points_out : (h : length l ≤ i) → (code_points (suc f) l i ≡ []) × (code_points_end (suc f) l i ≡ i)
  unfolding code_points code_points_end
  points_out h = let e : ltb i (length l) ≡ false = le-ltb i (length l) h in (rw e, rw e)

  points_last : i < length l → goes_on l i ≡ false → (code_points (suc f) l i ≡ code_point l i ++ []) × (code_points_end (suc f) l i ≡ code_point_end l i)
  unfolding code_points code_points_end
  points_last h g = let e : ltb i (length l) ≡ true = lt-ltb i (length l) h in (rw (e, g), rw (e, g))

  points_more : i < length l → goes_on l i ≡ true → (code_points (suc f) l i ≡ code_point l i ++ code_points f l (code_point_end l i + 1)) × (code_points_end (suc f) l i ≡ code_points_end f l (code_point_end l i + 1))
  unfolding code_points code_points_end
  points_more h g = let e : ltb i (length l) ≡ true = lt-ltb i (length l) h in (rw (e, g), rw (e, g))

points_end : (l : List ℕ) (f i : ℕ) → length l ≤ i → (code_points f l i ≡ []) × (code_points_end f l i ≡ i)
unfolding code_points code_points_end
points_end l zero i h = (refl, refl)
points_end l (suc f) i h = points_out l f i h

-- A loop that reads code points from `from` on and lays them over o₀ from s on: it stands at i of the line and at k of the output o.
pub record Reading (l o₀ : List ℕ) (from s : ℕ) (o : List ℕ) (k i : ℕ) : Type 0 where
  pub fuel : ℕ
  pub enough : length l ≤ i + fuel
  pub cells : Still o₀ s (code_points (length l) l from) o k (code_points fuel l i)
  pub end : code_points_end (length l) l from ≡ code_points_end fuel l i

-- What a reader answers.
abbrev pub Points : List ℕ → List ℕ → ℕ → ℕ → List ℕ → ℕ → ℕ → Type 0
Points l o₀ from s o r n = Lays o₀ s (code_points (length l) l from) r o × (n ≡ code_points_end (length l) l from)

pub reading_none : {l o : List ℕ} {from s : ℕ} → s ≤ length o → Reading l o from s o s from
reading_none {l} h = record { fuel = length l; enough = omega arith; cells = still_all _ h; end = refl }

pub reading_end : {l o₀ : List ℕ} {from s : ℕ} {o : List ℕ} {k i : ℕ} → Reading l o₀ from s o k i → length l ≤ i → Points l o₀ from s o k i
reading_end {l} {i = i} b h =
    let e = points_end l b.fuel i h in
    (still_none (rw e.0 at b.cells), sym (b.end ∙ e.1))

module _ (l : List ℕ) {o₀ : List ℕ} (from i : ℕ) {s : ℕ} {o : List ℕ} {k r : ℕ} {o' : List ℕ} (h : i < length l) (w : Lays o k (code_point l i) r o') where
  more : (f : ℕ) → length l ≤ i + f → Still o₀ s (code_points (length l) l from) o k (code_points f l i) → code_points_end (length l) l from ≡ code_points_end f l i → goes_on l i ≡ true → Reading l o₀ from s o' r (code_point_end l i + 1)
  more zero u c n g = let b : ⊥ = omega arith in absurd b
  more (suc f) u c n g =
      let e = points_more l f i h g in
      record { fuel = f; enough = omega (arith, point_up l i); cells = still_more (rw e.0 at c) w; end = n ∙ e.1 }

  last : (f : ℕ) → length l ≤ i + f → Still o₀ s (code_points (length l) l from) o k (code_points f l i) → code_points_end (length l) l from ≡ code_points_end f l i → goes_on l i ≡ false → Points l o₀ from s o' r (code_point_end l i)
  last zero u c n g = let b : ⊥ = omega arith in absurd b
  last (suc f) u c n g =
      let e = points_last l f i h g in
      (still_none (still_more (rw e.0 at c) w), sym (n ∙ e.1))

-- A code point is read, and a comma is passed if it comes next.
module _ {l o₀ : List ℕ} {from s : ℕ} {o : List ℕ} {k i : ℕ} (b : Reading l o₀ from s o k i) (h : i < length l) {r e : ℕ} {o' : List ℕ} (w : Lays o k (code_point l i) r o') (d : e ≡ code_point_end l i) {t : Bool} (q : t ≡ is 0x2c (cell_at l e)) {j : ℕ} (n : j ≡ cond t (e + 1) e) where
  pub reading_more : t ≡ true → Reading l o₀ from s o' r j
  reading_more g = rw (n, g, d) (more l from i h w b.fuel b.enough b.cells b.end (rw (← d) (sym q ∙ g)))

  pub reading_last : t ≡ false → Points l o₀ from s o' r j
  reading_last g = rw (n, g, d) (last l from i h w b.fuel b.enough b.cells b.end (rw (← d) (sym q ∙ g)))

  pub reading_up : t ≡ true → i < j
  reading_up g = rw (n, g, d) (omega (arith, point_up l i))

module _ (l : List ℕ) (i : ℕ) {o : List ℕ} {s : ℕ} where
  pub cells_none : is 0x2d (cell_at l i) ≡ true → s ≤ length o → {n : ℕ} → n ≡ next_field l i → Lays o s (cells_at l i) s o × (n ≡ cells_end l i)
  unfolding cells_at cells_end
  cells_none g h e = (rw g (lays_none o s h), rw g e)

  pub cells_some : is 0x2d (cell_at l i) ≡ false → {r e : ℕ} {o' : List ℕ} → Points l o i s o' r e → {n : ℕ} → n ≡ next_field l e → Lays o s (cells_at l i) r o' × (n ≡ cells_end l i)
  unfolding cells_at cells_end
  cells_some g p e = (rw g p.0, rw (g, ← p.1) e)
