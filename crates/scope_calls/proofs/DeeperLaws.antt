-- An entry list one level deeper: its check, and what is left of it after replacing.
use mathlib.Core.Path.{◌≡◌, refl, sym, ◌∙◌}
use mathlib.Core.Bool.{Bool, true, false, cond, ◌&&◌, ◌||◌, not}
use mathlib.Core.List.{List, [], ◌∷◌, ◌++◌, map}
use Prim.Native.Nat.{ℕ, suc, ◌-◌, ◌≤◌}
use native.Mathlib.Omega.{arith}
use native.Mathlib.Numerals.{add-one}
use lib.Dec.{ltb, leb, eqb-suc-suc, leb-suc-suc}
use borrow.Author.Tests.{eq-eqb, ne_eqb, lt-leb, lt-ltb, le-ltb, ltb-false}
use Rattle.reading.proofs.Test.{by_order, or_left, or_right}
use Rattle.scope.specs.Limits.{max_depth}
use Rattle.scope.specs.Entries.{Entry, context_kind}
use Rattle.scope.specs.Settled.{is_repeated, settled_from, settled}
use Rattle.scope.specs.Broken.{is_broken_name, has_parent, is_broken_entry, any_broken, is_broken_list}
use Rattle.scope.specs.Calls.{deeper}
use Rattle.scope.specs.Listing.{is_broken_to, any_broken_to, raised}
use Rattle.lists.proofs.OneContext.{AllIn}
use Rattle.scope_calls.proofs.SettlesLaws.{AllBelow}

-- Tests of numbers, both one more.
ltb_suc : (a b : ℕ) → ltb (suc a) (suc b) ≡ ltb a b
ltb_suc a b = leb-suc-suc (suc a) b

pub deeper_below : (c : ℕ) (es : List Entry) → AllIn c es → AllBelow c (map deeper es)
deeper_below c [] h = tt
deeper_below c (e ∷ es) h = (h.0, omega arith, deeper_below c es h.1)

pub deeper_in : (c : ℕ) (es : List Entry) → AllIn c es → AllIn c (map deeper es)
deeper_in c [] h = tt
deeper_in c (e ∷ es) h = (h.0, deeper_in c es h.1)

pub deeper-raised : (es : List Entry) → map (raised 1) es ≡ map deeper es
deeper-raised [] = refl
deeper-raised (e ∷ es) = rw (add-one e.depth, deeper-raised es)

-- Repeats stay repeats.
repeated_deeper : (e : Entry) (es : List Entry) → is_repeated (deeper e) (map deeper es) ≡ is_repeated e es
unfolding is_repeated
repeated_deeper e [] = refl
repeated_deeper e (f ∷ fs) = rw (ltb_suc f.depth e.depth, eqb-suc-suc f.depth e.depth, repeated_deeper e fs)

-- No depth above most.
abbrev Shallow : ℕ → List Entry → Type 0
Shallow most [] = Unit {0}
Shallow most (e ∷ es) = (e.depth ≤ most) × Shallow most es

shallow : (most : ℕ) (before es : List Entry) → any_broken_to most before es ≡ false → Shallow most es
unfolding any_broken_to is_broken_to
shallow most before [] h = tt
shallow most before (e ∷ es) h =
    let k = or_left (is_broken_to most e before) (any_broken_to most (e ∷ before) es) h in
    let a = ltb most e.depth in
    let b = ltb context_kind e.kind in
    let c = ltb 0 e.depth && not (has_parent e before) in
    (ltb-false most e.depth (or_left a b (or_left (a || b) c (or_left (a || b || c) (is_broken_name e.name) k))), shallow most (e ∷ before) es (or_right (is_broken_to most e before) (any_broken_to most (e ∷ before) es) h))

-- A cut one deeper does the same to entries one deeper.
settled-deeper : (cut cut' : ℕ) (es : List Entry) → Shallow (max_depth - 1) es → ((d : ℕ) → d ≤ max_depth - 1 → leb cut' (suc d) ≡ leb cut d) → settled_from cut' (map deeper es) ≡ map deeper (settled_from cut es)
unfolding settled_from
settled-deeper cut cut' [] s h = refl
settled-deeper cut cut' (e ∷ es) s h = rw (h e.depth s.0, repeated_deeper e es, settled-deeper cut cut' es s.1 h, settled-deeper (suc e.depth) (suc (suc e.depth)) es s.1 (λ d l. leb-suc-suc (suc e.depth) d), settled-deeper (suc max_depth) (suc max_depth) es s.1 (λ d l. top d l))
    (push_in (leb cut e.depth) (is_repeated e es))
  where
    top : (d : ℕ) → d ≤ max_depth - 1 → leb (suc max_depth) (suc d) ≡ leb (suc max_depth) d
    top d l = lt-leb (suc max_depth) (suc d) (omega arith) ∙ sym (lt-leb (suc max_depth) d (omega arith))

    push_in : (a b : Bool) → cond a (map deeper (settled_from cut es)) (cond b (map deeper (settled_from (suc e.depth) es)) (deeper e ∷ map deeper (settled_from (suc max_depth) es)))
        ≡ map deeper (cond a (settled_from cut es) (cond b (settled_from (suc e.depth) es) (e ∷ settled_from (suc max_depth) es)))
    push_in true b = refl
    push_in false true = refl
    push_in false false = refl

pub settled_below : (es : List Entry) → any_broken_to (max_depth - 1) [] es ≡ false → settled (map deeper es) ≡ map deeper (settled es)
settled_below es h = settled-deeper (suc max_depth) (suc max_depth) es (shallow (max_depth - 1) [] es h) (λ d l. lt-leb (suc max_depth) (suc d) (omega arith) ∙ sym (lt-leb (suc max_depth) d (omega arith)))

-- The check: a list below a context is broken if it is by itself, where one depth less is in range.
module _ (c : ℕ) (x : List ℕ) where
  abbrev head : Entry
  head = record { context = c; depth = 0; kind = context_kind; name = x }

  parent_deeper : (e : Entry) (before : List Entry) → e.context ≡ c → AllIn c before → has_parent (deeper e) (map deeper before ++ (head ∷ [])) ≡ (not (ltb 0 e.depth) || has_parent e before)
  unfolding has_parent
  parent_deeper e [] h k = by_order 0 e.depth
      (λ l. rw (eq-eqb c e.context (sym h), ne_eqb 1 (suc e.depth) (λ q. absurd (omega arith)), lt-ltb 0 (suc e.depth) (omega arith), lt-ltb 0 e.depth l))
      (λ l. rw (eq-eqb c e.context (sym h), eq-eqb 1 (suc e.depth) (omega arith), le-ltb 0 e.depth l))
  parent_deeper e (f ∷ fs) h k = by_order 0 e.depth
      (λ l. rw (eqb-suc-suc (suc f.depth) e.depth, ltb_suc f.depth e.depth, parent_deeper e fs h k.1, lt-ltb 0 e.depth l))
      (λ l. rw (eq-eqb f.context e.context (k.0 ∙ sym h), ne_eqb (suc (suc f.depth)) (suc e.depth) (λ q. absurd (omega arith)), le-ltb (suc f.depth) (suc e.depth) (omega arith), parent_deeper e fs h k.1, le-ltb 0 e.depth l))

  entry-deeper : (e : Entry) (before : List Entry) → e.context ≡ c → AllIn c before → is_broken_entry (deeper e) (map deeper before ++ (head ∷ [])) ≡ is_broken_to (max_depth - 1) e before
  unfolding is_broken_entry is_broken_to
  entry-deeper e before h k = rw (ltb_suc (max_depth - 1) e.depth, lt-ltb 0 (suc e.depth) (omega arith), parent_deeper e before h k) (orphan (ltb 0 e.depth) (has_parent e before))
    where
      orphan : (a b : Bool) → ltb (max_depth - 1) e.depth || ltb context_kind e.kind || not (not a || b) || is_broken_name e.name ≡ ltb (max_depth - 1) e.depth || ltb context_kind e.kind || (a && not b) || is_broken_name e.name
      orphan true b = refl
      orphan false b = refl

  broken_deeper : (before es : List Entry) → AllIn c before → AllIn c es → any_broken (map deeper before ++ (head ∷ [])) (map deeper es) ≡ any_broken_to (max_depth - 1) before es
  unfolding any_broken any_broken_to
  broken_deeper before [] k h = refl
  broken_deeper before (e ∷ es) k h = rw (entry-deeper e before h.0 k, broken_deeper (e ∷ before) es (h.0, k) h.1)

  pub list_below : (es : List Entry) → AllIn c es → is_broken_list (head ∷ map deeper es) ≡ is_broken_name x || any_broken_to (max_depth - 1) [] es
  unfolding any_broken is_broken_entry
  list_below es h = rw (broken_deeper [] es tt h)

-- A list that keeps to a lower depth keeps to the higher.
pub broken_more : (before es : List Entry) → any_broken_to (max_depth - 1) before es ≡ false → any_broken_to max_depth before es ≡ false
unfolding any_broken_to is_broken_to
broken_more before [] h = refl
broken_more before (e ∷ es) h =
    let k = or_left (is_broken_to (max_depth - 1) e before) (any_broken_to (max_depth - 1) (e ∷ before) es) h in
    let r = or_right (is_broken_to (max_depth - 1) e before) (any_broken_to (max_depth - 1) (e ∷ before) es) h in
    let a = ltb (max_depth - 1) e.depth in
    let b = ltb context_kind e.kind in
    let c = ltb 0 e.depth && not (has_parent e before) in
    let d = is_broken_name e.name in
    let k₁ = or_left (a || b || c) d k in
    let k₂ = or_left (a || b) c k₁ in
    let m = ltb-false (max_depth - 1) e.depth (or_left a b k₂) in
    rw (le-ltb max_depth e.depth (omega arith), or_right a b k₂, or_right (a || b) c k₁, or_right (a || b || c) d k, broken_more (e ∷ before) es r)
