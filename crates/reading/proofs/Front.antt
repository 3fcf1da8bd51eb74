-- Writing to the front of a slice, cell behind cell and part behind part.
use mathlib.Core.Path.{◌≡◌, refl, ◌∙◌}
use mathlib.Core.List.{List, [], ◌∷◌, ◌++◌, append_assoc}
use Prim.Native.Nat.{ℕ, suc, ◌+◌, ◌-◌, ◌<◌, ◌≤◌}
use native.Mathlib.Numerals.{add-one}
use native.Mathlib.Omega.{arith}
use lib.ListN.{length, drop, set, get_or, length-append, length-drop, length-set}
use lib.Seq.{paste, paste-suc, paste-zero, drop-append-add, drop-drop, get_or-drop, drop-cons, set-append_seam}
use Rattle.reading.specs.Slices.{front}

-- One cell behind what stands at the front.
pub front_snoc : (v out : List ℕ) (x : ℕ) → length v < length out → set (front v out) (length v) x ≡ front (v ++ x ∷ []) out
front_snoc v out x h =
    let n : length (v ++ x ∷ []) ≡ suc (length v) = omega (arith, length-append v (x ∷ [])) in
    rw (drop-cons out (length v) 0 h, set-append_seam, n, append_assoc)

-- Cells behind the front are as they were.
pub drop-front : (v o : List ℕ) (i : ℕ) → length v ≤ i → drop i (front v o) ≡ drop i o
drop-front v o i h =
    let z : i ≡ length v + (i - length v) = omega arith in
    rw z (drop-append-add v (drop (length v) o) (i - length v) ∙ drop-drop (i - length v) (length v) o)

-- A loop that copies the cells from `at` on to the place k of an output has copied j.
pub record Copying (t o : List ℕ) (at k j : ℕ) (o' : List ℕ) : Type 0 where
  pub same : length o' ≡ length o
  pub done : o' ≡ paste o k (drop at t) j

pub copying_none : (t o : List ℕ) (at k : ℕ) → Copying t o at k 0 o
copying_none t o at k = record { same = refl; done = paste-zero o k (drop at t) }

pub copying_more : {t o : List ℕ} {at k j : ℕ} {o' : List ℕ} → Copying t o at k j o' → at + j < length t → k + j < length o → Copying t o at k (j + 1) (set o' (k + j) (get_or t (at + j) 0))
copying_more {t} {o} {at} {k} {j} {o'} c h l = record {
  same = length-set o' (k + j) (get_or t (at + j) 0) ∙ c.same;
  done = rw (c.done, add-one j, ← get_or-drop at t j 0) (paste-suc o k (drop at t) j 0 l (rw length-drop (omega arith)));
}
