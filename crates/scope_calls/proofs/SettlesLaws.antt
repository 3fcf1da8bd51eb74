-- Naming is settling with a new entry at depth 0 behind, and what stands below it.
use mathlib.Core.Path.{◌≡◌, refl, sym, ◌∙◌}
use mathlib.Core.Bool.{Bool, true, false, cond, ◌&&◌, ◌||◌}
use mathlib.Core.List.{List, [], ◌∷◌, ◌++◌, append_assoc}
use Prim.Native.Nat.{ℕ, suc, ◌<◌, ◌≤◌}
use native.Mathlib.Omega.{arith}
use lib.Dec.{eqb, ltb, leb}
use borrow.Author.Tests.{eq-eqb, ne_eqb, lt-leb, lt-ltb, le-ltb, ltb-false}
use Rattle.reading.proofs.Test.{by_order, or_left, or_right}
use Rattle.names.specs.Same.{same}
use Rattle.names.proofs.SameLaws.{same_sym}
use Rattle.scope.specs.Entries.{Entry}
use Rattle.scope.specs.Settled.{is_repeated, settled_from, settled}
use Rattle.scope.specs.Broken.{any_repeated, any_misplaced}
use Rattle.scope.specs.Calls.{top}
use Rattle.scope.specs.Listing.{stays, cut_after, keep}
use Rattle.lists.proofs.OneContext.{AllIn}
use Rattle.scope_calls.specs.Naming.{stays_beside, without}
use Rattle.scope.proofs.SearchLaws.{or_none}
use Rattle.scope.proofs.ListLaws.{settled_parts}

-- All are of one context and deeper than 0.
abbrev pub AllBelow : ℕ → List Entry → Type 0
AllBelow c [] = Unit {0}
AllBelow c (e ∷ es) = (e.context ≡ c) × (0 < e.depth) × AllBelow c es

-- The last context of a scope that is not broken.
rest_in : (n : ℕ) (es : List Entry) → any_misplaced n n es ≡ false → AllIn n es
unfolding any_misplaced
rest_in n [] h = tt
rest_in n (e ∷ es) h =
    let k = or_left (ltb e.context n || ltb n e.context) (any_misplaced n e.context es) h in
    let a = ltb-false e.context n (or_left (ltb e.context n) (ltb n e.context) k) in
    let b = ltb-false n e.context (or_right (ltb e.context n) (ltb n e.context) k) in
    let z : e.context ≡ n = omega arith in
    (z, rest_in n es (rw z at (or_right (ltb e.context n || ltb n e.context) (any_misplaced n e.context es) h)))

pub top_in : (n low : ℕ) (es : List Entry) → any_misplaced n low es ≡ false → AllIn n (top n es)
unfolding any_misplaced top
top_in n low [] h = tt
top_in n low (e ∷ es) h =
    let k = or_left (ltb e.context low || ltb n e.context) (any_misplaced n e.context es) h in
    let b = ltb-false n e.context (or_right (ltb e.context low) (ltb n e.context) k) in
    let r = or_right (ltb e.context low || ltb n e.context) (any_misplaced n e.context es) h in
    go b r (top_in n e.context es r) (ltb e.context n) refl
  where
    go : e.context ≤ n → any_misplaced n e.context es ≡ false → AllIn n (top n es) → (t : Bool) → ltb e.context n ≡ t → AllIn n (cond t (top n es) (e ∷ es))
    go b r k true q = k
    go b r k false q = let a = ltb-false e.context n q in let z : e.context ≡ n = omega arith in (z, rest_in n es (rw z at r))

pub top_distinct : (n : ℕ) (es : List Entry) → any_repeated es ≡ false → any_repeated (top n es) ≡ false
unfolding any_repeated top
top_distinct n [] h = refl
top_distinct n (e ∷ es) h = go (ltb e.context n) (top_distinct n es (or_right (is_repeated e es) (any_repeated es) h))
  where
    go : (t : Bool) → any_repeated (top n es) ≡ false → any_repeated (cond t (top n es) (e ∷ es)) ≡ false
    go true k = k
    go false k = h

module _ (c kind : ℕ) (x : List ℕ) (tail : List Entry) (deep : AllBelow c tail) where
  abbrev head : Entry
  head = record { context = c; depth = 0; kind = kind; name = x }

  -- Nothing below the new entry has an entry's name at depth 0.
  none_below : (e : Entry) (fs : List Entry) → AllBelow c fs → e.context ≡ c → e.depth ≡ 0 → is_repeated e fs ≡ false
  unfolding is_repeated
  none_below e [] d h z = refl
  none_below e (f ∷ fs) d h z =
      let p = d.1 in
      rw (eq-eqb f.context e.context (d.0 ∙ sym h), le-ltb f.depth e.depth (omega arith), ne_eqb f.depth e.depth (λ q. absurd (omega arith)), none_below e fs d.2 h z)

  repeated_beside : (e : Entry) (es : List Entry) → e.context ≡ c → AllIn c es → is_repeated e es ≡ false → is_repeated e (es ++ (head ∷ tail)) ≡ (eqb e.depth 0 && same e.name x)
  unfolding is_repeated
  repeated_beside e [] h k r = by_order 0 e.depth
      (λ l. rw (eq-eqb c e.context (sym h), lt-ltb 0 e.depth l, ne_eqb e.depth 0 (λ q. absurd (omega arith))))
      (λ l. let z : e.depth ≡ 0 = omega arith in
      rw (eq-eqb c e.context (sym h), le-ltb 0 e.depth l, eq-eqb 0 e.depth (sym z), eq-eqb e.depth 0 z, none_below e tail deep h z) (or_none (same x e.name) ∙ same_sym x e.name))
  repeated_beside e (f ∷ fs) h k r = by_order f.depth e.depth
      (λ l. rw (eq-eqb f.context e.context (k.0 ∙ sym h), lt-ltb f.depth e.depth l, ne_eqb e.depth 0 (λ q. absurd (omega arith))))
      (λ l. let s = rw (eq-eqb f.context e.context (k.0 ∙ sym h), le-ltb f.depth e.depth l) at r in
      rw (eq-eqb f.context e.context (k.0 ∙ sym h), le-ltb f.depth e.depth l, or_left (eqb f.depth e.depth && same f.name e.name) (is_repeated e fs) s)
      (repeated_beside e fs h k.1 (or_right (eqb f.depth e.depth && same f.name e.name) (is_repeated e fs) s)))

  positive : (cut d : ℕ) (b : Bool) → 0 < cut → 0 < cut_after cut d b
  unfolding cut_after
  positive cut d true h = omega arith
  positive cut d false h = go (leb cut d)
    where
      go : (t : Bool) → 0 < cond t cut (suc d)
      go true = h
      go false = omega arith

  same_choice : (cut : ℕ) (e : Entry) (es : List Entry) → e.context ≡ c → AllIn c es → is_repeated e es ≡ false → stays cut e (es ++ (head ∷ tail)) ≡ stays_beside cut e x
  unfolding stays stays_beside
  same_choice cut e es h k r = rw (repeated_beside e es h k r)

  pub settles : (cut : ℕ) (es : List Entry) → AllIn c es → any_repeated es ≡ false → 0 < cut → settled_from cut (es ++ (head ∷ tail)) ≡ without cut x es ++ (head ∷ settled tail)
  unfolding settled_from without any_repeated
  settles cut [] k r h = rw (lt-leb cut 0 h, none_below head tail deep refl refl)
  settles cut (e ∷ es) k r h =
      settled_parts cut e (es ++ (head ∷ tail)) ∙ rw (same_choice cut e es k.0 k.1 (or_left (is_repeated e es) (any_repeated es) r), settles (cut_after cut e.depth (stays_beside cut e x)) es k.1 (or_right (is_repeated e es) (any_repeated es) r) (positive cut e.depth (stays_beside cut e x) h))
      (sym (append_assoc (keep (stays_beside cut e x) e) _ _))
