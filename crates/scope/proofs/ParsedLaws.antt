-- The names of entries, by index.
use mathlib.Core.Path.{◌≡◌}
use mathlib.Core.Bool.{false, ◌||◌}
use mathlib.Core.List.{List, ◌∷◌, map}
use Prim.Native.Nat.{ℕ, ◌+◌, ◌<◌, ◌≤◌}
use native.Mathlib.Numerals.{add-one}
use lib.ListN.{length, get_or, drop}
use Rattle.names.specs.Same.{same, member}
use Rattle.scope.specs.Entries.{Entry}
use Rattle.scope.specs.Broken.{is_broken_name, is_broken_set}
use Rattle.scope.specs.Viewed.{no_entry}
use Rattle.scope.proofs.SearchLaws.{Step}
use Rattle.scope.proofs.ListLaws.{map-step, map-end}

abbrev names : List Entry → List (List ℕ)
names es = map (λ e. e.name) es

module _ (es : List Entry) (i : ℕ) where
  module _ (h : i < length es) where
    names_step : drop i (names es) ≡ (get_or es i no_entry).name ∷ drop (i + 1) (names es)
    names_step = rw add-one (map-step (λ e. e.name) no_entry es i h)

    pub member-step : (x : List ℕ) → Step (member x (drop i (names es))) (same (get_or es i no_entry).name x) (member x (drop (i + 1) (names es)))
    unfolding member
    member-step x = record { parts = rw names_step }

    pub set_step : {x : List ℕ} → x ≡ (get_or es i no_entry).name → Step (is_broken_set (drop i (names es))) (is_broken_name x || member x (drop (i + 1) (names es))) (is_broken_set (drop (i + 1) (names es)))
    unfolding is_broken_set
    set_step q = record { parts = rw (names_step, q) }

  module _ (h : length es ≤ i) where
    pub member-end : (x : List ℕ) → member x (drop i (names es)) ≡ false
    unfolding member
    member-end x = rw (map-end (λ e. e.name) es i h)

    pub set-end : is_broken_set (drop i (names es)) ≡ false
    unfolding is_broken_set
    set-end = rw (map-end (λ e. e.name) es i h)
