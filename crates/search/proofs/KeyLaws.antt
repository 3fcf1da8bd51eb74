-- Flattened keys, level by level, as the code meets them.
use mathlib.Core.Path.{◌≡◌, refl, sym, ◌∙◌}
use mathlib.Core.Bool.{Bool, true, false, ◌||◌}
use mathlib.Core.List.{List, ◌++◌}
use Prim.Native.Nat.{ℕ, zero, suc, ◌+◌, ◌-◌, ◌<◌, ◌≤◌}
use native.Mathlib.Omega.{arith}
use lib.ListN.{length, get_or, drop}
use borrow.Author.Tests.{eq-eqb, ne_eqb, lt-ltb, le-ltb}
use Rattle.reading.specs.Codes.{codes}
use Rattle.names.specs.Same.{same, member}
use Rattle.scope.specs.Entries.{Entry}
use Rattle.scope.specs.Keys.{qualified, keys_of, level, levels}
use Rattle.scope.specs.Viewed.{no_entry}
use Rattle.search.specs.Rests.{leads}
use Rattle.search.proofs.TextLaws.{member-append, member-qualified}
use Rattle.scope.proofs.BrokenLaws.{entries_end, entry_step}

abbrev dot : List ℕ
dot = codes " . "

-- With no level left there is no key; with one or more, those at depth d have the levels below them.
module _ (n d : ℕ) (es : List Entry) where
  pub levels_none : (x : List ℕ) → n ≡ 0 → member x (levels n d es) ≡ false
  unfolding levels member
  levels_none x z = rw z refl

  pub levels_some : (n ≡ 0 → ⊥) → levels n d es ≡ level (levels (n - 1) (d + 1)) d es
  unfolding levels
  levels_some z = go n z
    where
      go : (m : ℕ) → (m ≡ 0 → ⊥) → levels m d es ≡ level (levels (m - 1) (d + 1)) d es
      go zero z = absurd (z refl)
      go (suc m) z = let q : suc m - 1 ≡ m = omega arith in rw q refl

-- The loop over one level.
module _ (x : List ℕ) (f : List Entry → List (List ℕ)) (d : ℕ) (es : List Entry) (i : ℕ) where
  pub level_end : length es ≤ i → member x (level f d (drop i es)) ≡ false
  unfolding level member
  level_end g = rw (entries_end es i g)

  module _ {e : Entry} (at : e ≡ get_or es i no_entry) (g : i < length es) where
    pub level_less : e.depth < d → member x (level f d (drop i es)) ≡ false
    unfolding level member
    level_less l = rw (entry_step es i at g, lt-ltb _ _ l)

    pub level_deeper : d ≤ e.depth → (e.depth ≡ d → ⊥) → member x (level f d (drop i es)) ≡ member x (level f d (drop (i + 1) es))
    unfolding level
    level_deeper l n = rw (entry_step es i at g, le-ltb _ _ l, ne_eqb _ _ n)

    module _ (h : e.depth ≡ d) {b : Bool} (o : b ≡ member x (keys_of f (get_or es i no_entry) (drop (i + 1) es))) where
      level_here : member x (level f d (drop i es)) ≡ b || member x (level f d (drop (i + 1) es))
      unfolding level
      level_here = rw (entry_step es i at g, le-ltb e.depth d (omega arith), eq-eqb _ _ h) (member-append x (keys_of f e (drop (i + 1) es)) (level f d (drop (i + 1) es)) ∙ rw (at, o))

      pub level_found : b ≡ true → member x (level f d (drop i es)) ≡ true
      level_found t = level_here ∙ rw t

      pub level_missed : b ≡ false → member x (level f d (drop i es)) ≡ member x (level f d (drop (i + 1) es))
      level_missed t = level_here ∙ rw t

-- One entry.
module _ (x : List ℕ) (e : Entry) (es : List Entry) (f : List Entry → List (List ℕ)) {b : Bool} (p : b ≡ same e.name x) where
  pub keys_itself : b ≡ true → member x (keys_of f e es) ≡ true
  unfolding keys_of member
  keys_itself t = rw (sym p ∙ t)

  module _ (t : b ≡ false) where
    pub keys_variable : (e.kind ≡ 1 → ⊥) → member x (keys_of f e es) ≡ false
    unfolding keys_of member
    keys_variable k = rw (sym p ∙ t, ne_eqb _ _ k)

    pub keys_context : e.kind ≡ 1 → member x (keys_of f e es) ≡ member x (qualified e.name (f es))
    unfolding keys_of member
    keys_context k = rw (sym p ∙ t, eq-eqb _ _ k)

-- A context's keys, bare and behind its name.
module _ (x n : List ℕ) (ks : List (List ℕ)) {h : Bool} (q : h ≡ member x ks) where
  pub below_bare : h ≡ true → member x (qualified n ks) ≡ true
  below_bare u = member-qualified x n ks ∙ rw (sym q ∙ u)

  module _ (u : h ≡ false) where
    pub below_none : leads (n ++ dot) x ≡ false → member x (qualified n ks) ≡ false
    below_none v = member-qualified x n ks ∙ rw (sym q ∙ u, v)

    pub below_path : {y : List ℕ} → (leads (n ++ dot) x ≡ true) × (y ≡ drop (length (n ++ dot)) x) → {a : Bool} → a ≡ member y ks → a ≡ member x (qualified n ks)
    below_path w g = g ∙ rw w.1 (sym (member-qualified x n ks ∙ rw (sym q ∙ u, w.0)))
