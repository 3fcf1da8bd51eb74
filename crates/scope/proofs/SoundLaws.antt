-- What a scope that is not broken is known to have, and the check's clauses in order.
use mathlib.Core.Path.{◌≡◌, refl, sym, ◌∙◌}
use mathlib.Core.Bool.{Bool, true, false, ◌||◌, not}
use mathlib.Core.List.{List, map}
use Prim.Native.Nat.{ℕ, ◌+◌, ◌-◌, ◌≤◌}
use native.Mathlib.Omega.{arith}
use lib.Dec.{ltb}
use lib.ListN.{length, take, drop, length-drop}
use borrow.Author.Tests.{ltb-false}
use Rattle.reading.proofs.Test.{or_left, or_right}
use Rattle.scope.specs.Limits.{max_contexts, max_entries, max_parsed, max_name}
use Rattle.scope.specs.Broken.{all_scalar, is_broken_name, is_broken_list, any_repeated, is_broken_set, any_misplaced, is_broken_scope}
use Rattle.scope.specs.Lent.{Lent, held, held_parsed, scope_of, any_too_long, is_broken}
use Rattle.scope.specs.Rows.{all_held}
use Rattle.scope.proofs.HeldLaws.{too_long_take, held_take}

pub short_name : (n : List ℕ) → is_broken_name n ≡ false → length n ≤ max_name
unfolding is_broken_name
short_name n h = ltb-false max_name (length n) (or_left (ltb max_name (length n)) (not (all_scalar n)) h)

-- The counts and the rows.
module _ (c e p s n : ℕ) where
  abbrev pub is_over : Bool
  is_over = ltb max_contexts c || ltb max_entries e || ltb max_parsed p || ltb s (max_entries + max_parsed) || ltb n (max_entries + max_parsed)

  pub record Within : Type 0 where
    pub few_contexts : c ≤ max_contexts
    pub few_entries : e ≤ max_entries
    pub few_parsed : p ≤ max_parsed
    pub slots_there : max_entries + max_parsed ≤ s
    pub names_there : max_entries + max_parsed ≤ n

  pub within : is_over ≡ false → Within
  within h =
      let h₁ = or_left (ltb max_contexts c || ltb max_entries e || ltb max_parsed p || ltb s (max_entries + max_parsed)) (ltb n (max_entries + max_parsed)) h in
      let h₂ = or_left (ltb max_contexts c || ltb max_entries e || ltb max_parsed p) (ltb s (max_entries + max_parsed)) h₁ in
      let h₃ = or_left (ltb max_contexts c || ltb max_entries e) (ltb max_parsed p) h₂ in
      record {
        few_contexts = ltb-false max_contexts c (or_left (ltb max_contexts c) (ltb max_entries e) h₃);
        few_entries = ltb-false max_entries e (or_right (ltb max_contexts c) (ltb max_entries e) h₃);
        few_parsed = ltb-false max_parsed p (or_right (ltb max_contexts c || ltb max_entries e) (ltb max_parsed p) h₂);
        slots_there = ltb-false s (max_entries + max_parsed) (or_right (ltb max_contexts c || ltb max_entries e || ltb max_parsed p) (ltb s (max_entries + max_parsed)) h₁);
        names_there = ltb-false n (max_entries + max_parsed) (or_right (ltb max_contexts c || ltb max_entries e || ltb max_parsed p || ltb s (max_entries + max_parsed)) (ltb n (max_entries + max_parsed)) h);
      }

abbrev pub is_over_lent : Lent → Bool
is_over_lent l = is_over l.contexts l.entries l.parsed (length l.slots) (length l.names)

abbrev pub WithinLent : Lent → Type 0
WithinLent l = Within l.contexts l.entries l.parsed (length l.slots) (length l.names)

-- The check: the counts and the rows there, then the name lengths of the rows in use, then what they hold.
module _ (l : Lent) where
  pub broken_over : is_over_lent l ≡ true → is_broken l ≡ true
  unfolding is_broken
  broken_over t = rw t

  module _ (o : is_over_lent l ≡ false) where
    limits : WithinLent l
    limits = within l.contexts l.entries l.parsed (length l.slots) (length l.names) o

    -- The rows in use.
    front : {ss : List (List ℕ)} → ss ≡ take l.entries l.slots → any_too_long (length ss) ss ≡ any_too_long l.entries l.slots
    front e = let w = limits in rw e (too_long_take l.entries l.slots (omega arith))

    back : {ss : List (List ℕ)} → ss ≡ take (max_entries + l.parsed - max_entries) (drop max_entries l.slots) → any_too_long (length ss) ss ≡ any_too_long l.parsed (drop max_entries l.slots)
    back e =
        let w = limits in
        let z : max_entries + l.parsed - max_entries ≡ l.parsed = omega arith in
        rw (e, z) (too_long_take l.parsed (drop max_entries l.slots) (rw length-drop (omega arith)))

    pub broken_long : any_too_long (length (take l.entries l.slots)) (take l.entries l.slots) ≡ true → is_broken l ≡ true
    unfolding is_broken
    broken_long t = rw (o, sym (front refl) ∙ t)

    module _ {ss ns : List (List ℕ)} (e : (ss ≡ take l.entries l.slots) × (ns ≡ take l.entries l.names)) (short : any_too_long (length ss) ss ≡ false) where
      pub broken_long_parsed : any_too_long (length (take (max_entries + l.parsed - max_entries) (drop max_entries l.slots))) (take (max_entries + l.parsed - max_entries) (drop max_entries l.slots)) ≡ true → is_broken l ≡ true
      unfolding is_broken
      broken_long_parsed t = rw (o, sym (front e.0) ∙ short, sym (back refl) ∙ t)

      module _ {ps qs : List (List ℕ)} (f : (ps ≡ take (max_entries + l.parsed - max_entries) (drop max_entries l.slots)) × (qs ≡ take (max_entries + l.parsed - max_entries) (drop max_entries l.names))) (short' : any_too_long (length ps) ps ≡ false) where
        held_entries : all_held ss ns ≡ held l.entries l.slots l.names
        held_entries = let w = limits in rw (e.0, e.1) (held_take l.entries l.slots l.names (omega arith))

        held_names : all_held ps qs ≡ held_parsed l
        held_names =
            let w = limits in
            let z : max_entries + l.parsed - max_entries ≡ l.parsed = omega arith in
            rw (f.0, f.1, z) (held_take l.parsed (drop max_entries l.slots) (drop max_entries l.names) (rw length-drop (omega arith)))

        pub broken_held : {b : Bool} → b ≡ is_broken_scope (record { contexts = l.contexts; entries = all_held ss ns; parsed = map (λ e. e.name) (all_held ps qs) }) → is_broken l ≡ b
        unfolding is_broken
        broken_held q = rw (o, sym (front e.0) ∙ short, sym (back f.0) ∙ short') (sym (q ∙ rw (held_entries, held_names)))

-- A scope that is not broken.
pub record Sound (l : Lent) : Type 0 where
  pub limits : WithinLent l
  pub short_entries : any_too_long l.entries l.slots ≡ false
  pub short_parsed : any_too_long l.parsed (drop max_entries l.slots) ≡ false
  pub placed : any_misplaced l.contexts 1 (scope_of l).entries ≡ false
  pub unbroken : is_broken_list (scope_of l).entries ≡ false
  pub distinct : any_repeated (scope_of l).entries ≡ false
  pub unbroken_set : is_broken_set (scope_of l).parsed ≡ false

pub sound : (l : Lent) → is_broken l ≡ false → Sound l
unfolding is_broken
sound l z =
    let o = is_over_lent l in
    let f = any_too_long l.entries l.slots in
    let g = any_too_long l.parsed (drop max_entries l.slots) in
    let h = any_misplaced l.contexts 1 (scope_of l).entries in
    let i = is_broken_list (scope_of l).entries in
    let j = any_repeated (scope_of l).entries in
    let k = is_broken_set (scope_of l).parsed in
    let z₁ = or_left (o || f || g) (h || i || j || k) z in
    let z₂ = or_left (o || f) g z₁ in
    let y = or_right (o || f || g) (h || i || j || k) z in
    let y₁ = or_left (h || i || j) k y in
    let y₂ = or_left (h || i) j y₁ in
    record {
      limits = within l.contexts l.entries l.parsed (length l.slots) (length l.names) (or_left o f z₂);
      short_entries = or_right o f z₂;
      short_parsed = or_right (o || f) g z₁;
      placed = or_left h i y₂;
      unbroken = or_right h i y₂;
      distinct = or_right (h || i) j y₁;
      unbroken_set = or_right (h || i || j) k y;
    }

-- The rows in use of a scope that is not broken.
module _ (l : Lent) (z : is_broken l ≡ false) where
  pub short_front : any_too_long (length (take l.entries l.slots)) (take l.entries l.slots) ≡ false
  short_front = let s = sound l z in let w = s.limits in too_long_take l.entries l.slots (omega arith) ∙ s.short_entries

  pub entries_front : all_held (take l.entries l.slots) (take l.entries l.names) ≡ (scope_of l).entries
  entries_front = let s = sound l z in let w = s.limits in held_take l.entries l.slots l.names (omega arith)

  module _ (k : ℕ) (e : k ≡ l.parsed) where
    pub short_back : any_too_long (length (take k (drop max_entries l.slots))) (take k (drop max_entries l.slots)) ≡ false
    short_back = let s = sound l z in let w = s.limits in rw e (too_long_take l.parsed (drop max_entries l.slots) (rw length-drop (omega arith)) ∙ s.short_parsed)

    pub parsed_back : map (λ e. e.name) (all_held (take k (drop max_entries l.slots)) (take k (drop max_entries l.names))) ≡ (scope_of l).parsed
    parsed_back = let s = sound l z in let w = s.limits in rw (e, held_take l.parsed (drop max_entries l.slots) (drop max_entries l.names) (rw length-drop (omega arith)))
