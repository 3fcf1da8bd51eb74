-- A run as a relation between a state and the items read from it: fuel is met once, where `items` is shown to give such a run.
use mathlib.Core.Path.{◌≡◌, refl, subst}
use mathlib.Core.Bool.{true, false}
use mathlib.Core.List.{List, [], ◌∷◌}
use Prim.Native.Nat.{ℕ, zero, suc, ◌+◌, ◌≤◌, ◌<◌, suc-le-suc}
use native.Mathlib.Nat.{not-suc-le-zero}
use native.Mathlib.Omega.{arith}
use lib.ListN.{length, drop, length-drop}
use Rattle.reading.proofs.Test.{by_test}
use Rattle.text.specs.Limits.{max_chars}
use Rattle.lexer.specs.Flags.{Flags}
use Rattle.lexer.proofs.TokenFacts.{Sound}
use Rattle.runs.specs.Item.{Item, ends_run}
use Rattle.runs.specs.Run.{Reader, seen, item_at, items}

-- `is` are the items from position p and flags f on.
pub data Runs (tok : Reader) (t : List ℕ) : ℕ → Flags → List Item → Type 0 where
  last : {p : ℕ} {f : Flags} → ends_run (item_at tok t p f) ≡ true → Runs tok t p f (item_at tok t p f ∷ [])
  more : {p : ℕ} {f : Flags} {is : List Item} → ends_run (item_at tok t p f) ≡ false
      → Runs tok t (item_at tok t p f).position (item_at tok t p f).flags is → Runs tok t p f (item_at tok t p f ∷ is)

-- A run is determined by its text and its state.
pub same-run : {tok : Reader} {t : List ℕ} {p : ℕ} {f : Flags} {is js : List Item} → Runs tok t p f is → Runs tok t p f js → is ≡ js
same-run (last h) (last g) = refl
same-run (last h) (more g r) = cc
same-run (more h r) (last g) = cc
same-run (more h r) (more g s) = cc (same-run r s)

-- The two constructors, for an item that is known otherwise.
pub last_is : {tok : Reader} {t : List ℕ} {p : ℕ} {f : Flags} {i : Item} → item_at tok t p f ≡ i → ends_run i ≡ true → Runs tok t p f (i ∷ [])
last_is {tok} {t} {p} {f} e h = subst (λ i. ends_run i ≡ true → Runs tok t p f (i ∷ [])) e last h

pub more_is : {tok : Reader} {t : List ℕ} {p : ℕ} {f : Flags} {i : Item} {is : List Item} → item_at tok t p f ≡ i → ends_run i ≡ false
    → Runs tok t i.position i.flags is → Runs tok t p f (i ∷ is)
more_is {tok} {t} {p} {f} {is = is} e = subst (λ i. ends_run i ≡ false → Runs tok t i.position i.flags is → Runs tok t p f (i ∷ is)) e more

-- A reader with the facts of a reading, on every text within the limit.
abbrev pub IsSound : Reader → Type 0
IsSound tok = (t : List ℕ) (f : Flags) → length t ≤ max_chars → Sound (length t) (seen tok t f)

module _ (tok : Reader) (sound : IsSound tok) (t : List ℕ) (limit : length t ≤ max_chars) where
  -- Each item uses a cell, so a run has at most one item more than cells are left.
  completes : (n : ℕ) (p : ℕ) (f : Flags) → length (drop p t) < n → Runs tok t p f (items tok n t p f)
  unfolding items
  completes zero p f h = absurd (not-suc-le-zero h)
  completes (suc n) p f h = by_test (λ is. Runs tok t p f (item_at tok t p f ∷ is)) (ends_run (item_at tok t p f)) last (λ g. more g (completes n _ _ (less g)))
    where
      less : ends_run (item_at tok t p f) ≡ false → length (drop (item_at tok t p f).position t) < n
      less g =
          let l = length-drop p t in
          let s = sound (drop p t) f (omega arith) in
          omega (arith, s.in_text, s.onward g, length-drop (item_at tok t p f).position t)

  pub complete : (p : ℕ) (f : Flags) → Runs tok t p f (items tok (length t + 1) t p f)
  complete p f = completes (length t + 1) p f (omega (arith, length-drop p t))

pub item_count : (tok : Reader) (n : ℕ) (t : List ℕ) (p : ℕ) (f : Flags) → length (items tok n t p f) ≤ n
unfolding items
item_count tok zero t p f = omega arith
item_count tok (suc n) t p f =
    by_test (λ is. suc (length is) ≤ suc n) (ends_run (item_at tok t p f)) {x = []} (λ _. omega arith) (λ _. suc-le-suc (item_count tok n t (item_at tok t p f).position (item_at tok t p f).flags))
