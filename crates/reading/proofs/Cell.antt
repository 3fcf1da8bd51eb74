-- The cell at an index: there, past the end, behind some dropped, before some put behind.
use Rattle.std.specs.Prelude.{None, Some}
use mathlib.Core.Path.{◌≡◌, refl}
use mathlib.Core.Bool.{Bool, true, false, false≢true}
use mathlib.Core.List.{List, [], ◌∷◌, ◌++◌}
use Prim.Native.Nat.{ℕ, zero, suc, ◌+◌, ◌≤◌, ◌<◌}
use native.Mathlib.Nat.{not-suc-le-zero, le_of_suc-le-suc, suc-add, zero-add}
use native.Mathlib.Omega.{arith}
use lib.ListN.{length, get_or, take, drop}
use Rattle.reading.specs.Look.{cell_at}
use Rattle.reading.specs.Cells.{holds}

pub cell_in : (t : List ℕ) (i : ℕ) → i < length t → cell_at t i ≡ Some (get_or t i 0)
unfolding cell_at
cell_in [] i h = absurd (not-suc-le-zero h)
cell_in (x ∷ t) zero h = refl
cell_in (x ∷ t) (suc i) h = cell_in t i (le_of_suc-le-suc h)

pub cell_out : (t : List ℕ) (i : ℕ) → length t ≤ i → cell_at t i ≡ None
unfolding cell_at
cell_out [] i h = refl
cell_out (x ∷ t) zero h = absurd (not-suc-le-zero h)
cell_out (x ∷ t) (suc i) h = cell_out t i (le_of_suc-le-suc h)

-- A cell that passes a test is there.
pub cell_there : (p : ℕ → Bool) (t : List ℕ) (i : ℕ) → holds p (cell_at t i) ≡ true → i < length t
unfolding cell_at
cell_there p [] i h = absurd (false≢true h)
cell_there p (x ∷ t) zero h = omega arith
cell_there p (x ∷ t) (suc i) h = omega (arith, cell_there p t i h)

-- A look, as code makes it.
pub holds_out : (p : ℕ → Bool) (t : List ℕ) (i : ℕ) → length t ≤ i → false ≡ holds p (cell_at t i)
holds_out p t i h = rw (cell_out t i h)

pub holds_in : (p : ℕ → Bool) (t : List ℕ) (i : ℕ) → i < length t → p (get_or t i 0) ≡ holds p (cell_at t i)
holds_in p t i h = rw (cell_in t i h)

pub cell-drop : (p : ℕ) (t : List ℕ) (i : ℕ) → cell_at (drop p t) i ≡ cell_at t (p + i)
unfolding cell_at
cell-drop zero t i = rw zero-add
cell-drop (suc p) [] i = refl
cell-drop (suc p) (c ∷ t) i = rw suc-add (cell-drop p t i)

pub cell-take : (a : ℕ) (t : List ℕ) (i : ℕ) → i < a → cell_at t i ≡ cell_at (take a t) i
unfolding cell_at
cell-take zero t i h = absurd (not-suc-le-zero h)
cell-take (suc a) [] i h = refl
cell-take (suc a) (c ∷ t) zero h = refl
cell-take (suc a) (c ∷ t) (suc i) h = cell-take a t i (omega arith)

pub cell-append : (t u : List ℕ) (i : ℕ) → i < length t → cell_at (t ++ u) i ≡ cell_at t i
unfolding cell_at
cell-append [] u i h = absurd (not-suc-le-zero h)
cell-append (c ∷ t) u zero h = refl
cell-append (c ∷ t) u (suc i) h = cell-append t u i (omega arith)
