-- No name of a scope is longer than the longest names of all depths together; where it is not broken, none is longer than the longest key.
use mathlib.Core.Path.{◌≡◌, refl, sym, ◌∙◌}
use mathlib.Core.Bool.{Bool, true, false, cond, ◌&&◌, ◌||◌, not, false≢true}
use mathlib.Core.List.{List, [], ◌∷◌, ◌++◌}
use Prim.Native.Nat.{ℕ, zero, suc, ◌+◌, ◌<◌, ◌≤◌}
use native.Mathlib.Omega.{arith}
use lib.Dec.{eqb, ltb}
use lib.ListN.{length, drop, length-append, length-drop}
use borrow.Author.Tests.{eqb-true}
use Rattle.reading.specs.Codes.{codes}
use Rattle.reading.proofs.Test.{both, either, or_left, or_right}
use Rattle.names.specs.Same.{same, member}
use Rattle.names.proofs.SameLaws.{equal_length}
use Rattle.scope.specs.Limits.{max_name, max_depth}
use Rattle.scope.specs.Entries.{Entry, context_kind, ParsingScope}
use Rattle.scope.specs.Broken.{is_broken_name, has_parent, is_broken_entry, any_broken, is_broken_set}
use Rattle.scope.specs.Keys.{qualified, keys_of, level, levels, flattened_keys, longest_key, is_name}
use Rattle.scope.specs.Capped.{Capped}
use Rattle.search.specs.Longest.{total}
use Rattle.scope.specs.Lent.{Lent, scope_of, is_broken}
use Rattle.search.specs.Rests.{leads}
use Rattle.search.proofs.TextLaws.{member-append, member-qualified}
use Rattle.scope.proofs.SoundLaws.{sound, short_name}

-- No name at depth d has, with " . " behind it, more than w d cells.
abbrev pub Fits : (ℕ → ℕ) → List Entry → Type 0
Fits w [] = Unit {0}
Fits w (e ∷ es) = (length e.name + 3 ≤ w e.depth) × Fits w es

-- None of the names has more than p cells.
abbrev pub Short : ℕ → List (List ℕ) → Type 0
Short p [] = Unit {0}
Short p (n ∷ ns) = (length n ≤ p) × Short p ns

-- One level, if the keys of the levels below it keep to a bound.
module _ (w : ℕ → ℕ) (f : List Entry → List (List ℕ)) (b : ℕ) (below : (es : List Entry) → Fits w es → (x : List ℕ) → member x (f es) ≡ true → length x + 3 ≤ b) where
  keys_bound : (m : ℕ) (e : Entry) (es : List Entry) → length e.name + 3 ≤ m → Fits w es → (x : List ℕ) → member x (keys_of f e es) ≡ true → length x + 3 ≤ m + b
  unfolding keys_of member
  keys_bound m e es n s x h = either (same e.name x) h
      (λ g. let l = equal_length e.name x g in omega arith)
      (λ g. within (eqb e.kind context_kind) g)
    where
      deeper : member x (qualified e.name (f es)) ≡ true → length x + 3 ≤ m + b
      deeper g = either (member x (f es)) (sym (member-qualified x e.name (f es)) ∙ g)
          (λ k. let l = below es s x k in omega arith)
          (λ k. let l = below es s (drop (length (e.name ++ codes " . ")) x) (both (leads (e.name ++ codes " . ") x) _ k).1 in
          omega (arith, length-drop (length (e.name ++ codes " . ")) x, length-append e.name (codes " . ")))

      within : (c : Bool) → member x (cond c (qualified e.name (f es)) []) ≡ true → length x + 3 ≤ m + b
      within true g = deeper g
      within false g = absurd (false≢true g)

  level_bound : (d : ℕ) (es : List Entry) → Fits w es → (x : List ℕ) → member x (level f d es) ≡ true → length x + 3 ≤ w d + b
  unfolding level member
  level_bound d [] s x h = absurd (false≢true h)
  level_bound d (e ∷ es) s x h = go (ltb e.depth d) (eqb e.depth d) refl h (level_bound d es s.1 x)
    where
      here : e.depth ≡ d → member x (keys_of f e es) ≡ true → length x + 3 ≤ w d + b
      here q z = keys_bound (w d) e es (rw q at s.0) s.1 x z

      go : (p q : Bool) → eqb e.depth d ≡ q → member x (cond p [] (cond q (keys_of f e es ++ level f d es) (level f d es))) ≡ true → (member x (level f d es) ≡ true → length x + 3 ≤ w d + b) → length x + 3 ≤ w d + b
      go true q o g k = absurd (false≢true g)
      go false true o g k = either (member x (keys_of f e es)) (sym (member-append x (keys_of f e es) (level f d es)) ∙ g) (here (eqb-true e.depth d o)) k
      go false false o g k = k g

levels_bound : (w : ℕ → ℕ) (n d : ℕ) (es : List Entry) → Fits w es → (x : List ℕ) → member x (levels n d es) ≡ true → length x + 3 ≤ total w n d
unfolding levels member total
levels_bound w zero d es s x h = absurd (false≢true h)
levels_bound w (suc n) d es s x h = level_bound w (levels n (d + 1)) (total w n (d + 1)) (λ fs t y. levels_bound w n (d + 1) fs t y) d es s x h

parsed_bound : (p : ℕ) (ns : List (List ℕ)) → Short p ns → (x : List ℕ) → member x ns ≡ true → length x ≤ p
unfolding member
parsed_bound p [] s x h = absurd (false≢true h)
parsed_bound p (n ∷ ns) s x h = either (same n x) h
    (λ g. let l = equal_length n x g in let k = s.0 in omega arith)
    (λ g. parsed_bound p ns s.1 x g)

-- A name is a parsed one or a key: one name for each depth at most, and " . " between two.
pub capped : (w : ℕ → ℕ) (p b : ℕ) (s : ParsingScope) → Fits w s.entries → Short p s.parsed → total w (suc max_depth) 0 ≤ b + 3 → p ≤ b → Capped (is_name s) b
unfolding is_name
capped w p b s f g h k = record {
  so = λ x z. either (member x s.parsed) z
      (λ y. let l = parsed_bound p s.parsed g x y in omega arith)
      (λ y. let l = levels_bound w (suc max_depth) 0 s.entries f x y in omega arith);
}

-- In every scope that is not broken.
all_fit : (before es : List Entry) → any_broken before es ≡ false → Fits (λ d. max_name + 3) es
unfolding any_broken is_broken_entry
all_fit before [] h = tt
all_fit before (e ∷ es) h = (
  let s = short_name e.name (or_right (ltb max_depth e.depth || ltb context_kind e.kind || (ltb 0 e.depth && not (has_parent e before))) (is_broken_name e.name) (or_left (is_broken_entry e before) (any_broken (e ∷ before) es) h)) in omega arith,
  all_fit (e ∷ before) es (or_right (is_broken_entry e before) (any_broken (e ∷ before) es) h),
)

all_short : (ns : List (List ℕ)) → is_broken_set ns ≡ false → Short max_name ns
unfolding is_broken_set
all_short [] z = tt
all_short (n ∷ ns) z = (
  short_name n (or_left (is_broken_name n) (member n ns) (or_left (is_broken_name n || member n ns) (is_broken_set ns) z)),
  all_short ns (or_right (is_broken_name n || member n ns) (is_broken_set ns) z),
)

pub longest : (l : Lent) → is_broken l ≡ false → Capped (is_name (scope_of l)) longest_key
unfolding total
longest l z =
    let s = sound l z in
    capped (λ d. max_name + 3) max_name longest_key (scope_of l) (all_fit [] (scope_of l).entries s.unbroken) (all_short (scope_of l).parsed s.unbroken_set) (omega arith) (omega arith)

-- The question itself.
module _ (l : Lent) (x : List ℕ) where
  pub name_too_long : is_broken l ≡ false → longest_key < length x → false ≡ is_name (scope_of l) x
  name_too_long z h = go (is_name (scope_of l) x) refl
    where
      go : (b : Bool) → is_name (scope_of l) x ≡ b → false ≡ b
      go true e = let k = (longest l z).so x e in absurd (omega arith)
      go false e = refl

  module _ {b : Bool} (p : b ≡ member x (scope_of l).parsed) where
    pub name_parsed : b ≡ true → true ≡ is_name (scope_of l) x
    unfolding is_name
    name_parsed t = rw (sym p ∙ t)

    pub name_key : b ≡ false → {r : Bool} → r ≡ member x (flattened_keys (scope_of l).entries) → r ≡ is_name (scope_of l) x
    unfolding is_name
    name_key t q = q ∙ rw (sym p ∙ t)
