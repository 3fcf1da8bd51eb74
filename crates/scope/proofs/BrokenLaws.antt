-- 01's 10, clause by clause, as the loops meet it.
use mathlib.Core.Path.{◌≡◌, refl, sym, ◌∙◌, ap}
use mathlib.Core.Bool.{Bool, true, false, ◌&&◌, ◌||◌, not, false≢true}
use mathlib.Core.Logic.{◌⊎◌, inl, inr}
use mathlib.Core.List.{List, [], ◌∷◌}
use Prim.Native.Nat.{ℕ, zero, suc, ◌+◌, ◌-◌, ◌<◌, ◌≤◌}
use native.Mathlib.Omega.{arith}
use native.Mathlib.Numerals.{add-one}
use lib.Dec.{ltb, eqb}
use lib.ListN.{length, get_or, drop, drop_of_length-le}
use lib.Seq.{drop-cons}
use lib.Pointwise.{pointwise}
use borrow.Author.Tests.{eq-eqb, ne_eqb, lt-ltb, le-ltb, le-leb, ltb-true, ltb-false}
use Rattle.reading.proofs.Test.{both, by_order, or_left, or_right}
use Rattle.std.specs.List.{list_all}
use Rattle.std.proofs.lemmas.Bool.Decides.{eqb_tells}
use Rattle.text.specs.Classes.{is_scalar}
use Rattle.names.specs.Same.{same}
use Rattle.scope.specs.Limits.{max_depth}
use Rattle.scope.specs.Entries.{Entry, context_kind}
use Rattle.scope.specs.Settled.{is_repeated}
use Rattle.scope.specs.Broken.{all_scalar, is_broken_name, has_parent, is_broken_entry, any_broken, any_repeated, any_misplaced}
use Rattle.scope.specs.Rows.{earlier}
use Rattle.scope.specs.Listing.{is_broken_to, any_broken_to}
use Rattle.scope.specs.Parented.{Parented}
use Rattle.scope.specs.Viewed.{no_entry}
use Rattle.scope.proofs.SearchLaws.{Step}
use Rattle.scope.proofs.HeldLaws.{earlier_step}

pub all_scalar_list : (cs : List ℕ) → all_scalar cs ≡ list_all is_scalar cs
unfolding all_scalar
all_scalar_list [] = refl
all_scalar_list (c ∷ cs) = ap (λ b. is_scalar c && b) (all_scalar_list cs)

pub low_scalar : (c : ℕ) → c ≤ 0xD7FF → is_scalar c ≡ true
unfolding is_scalar
low_scalar c h = rw (le-leb 0 c (omega arith), le-leb c 0xD7FF h)

-- Where all lie before the surrogates, all are scalar values.
pub low_scalars : (cs : List ℕ) → list_all (λ c. ltb c 0xD800) cs ≡ true → true ≡ list_all is_scalar cs
low_scalars [] h = refl
low_scalars (c ∷ cs) h =
    let b = both (ltb c 0xD800) (list_all (λ c. ltb c 0xD800) cs) h in
    let l = ltb-true c 0xD800 b.0 in
    rw (low_scalar c (omega arith)) (low_scalars cs b.1)

pub same_pointwise : (x y : List ℕ) → pointwise eqb x y ≡ same x y
unfolding same
same_pointwise [] [] = refl
same_pointwise [] (b ∷ y) = refl
same_pointwise (a ∷ x) [] = refl
same_pointwise (a ∷ x) (b ∷ y) = ap (λ z. eqb a b && z) (same_pointwise x y)

-- The parent is looked for among the earlier entries.
module _ (e f : Entry) (fs : List Entry) where
  pub parent_other : (f.context ≡ e.context → ⊥) → has_parent e (f ∷ fs) ≡ false
  unfolding has_parent
  parent_other h = rw (ne_eqb _ _ h)

  module _ (h : f.context ≡ e.context) where
    pub parent_here : suc f.depth ≡ e.depth → has_parent e (f ∷ fs) ≡ eqb f.kind context_kind
    unfolding has_parent
    parent_here g = rw (eq-eqb _ _ h, eq-eqb _ _ g)

    module _ (g : suc f.depth ≡ e.depth → ⊥) where
      pub parent_less : f.depth < e.depth → has_parent e (f ∷ fs) ≡ false
      unfolding has_parent
      parent_less l = rw (eq-eqb _ _ h, ne_eqb _ _ g, lt-ltb _ _ l)

      pub parent_more : e.depth ≤ f.depth → has_parent e (f ∷ fs) ≡ has_parent e fs
      unfolding has_parent
      parent_more l = rw (eq-eqb _ _ h, ne_eqb _ _ g, le-ltb f.depth e.depth l)

-- Where every earlier entry has its parent, that of an entry is one for whatever of its context is less deep, down to depth 1.
parent_too : (e f : Entry) (fs : List Entry) → f.context ≡ e.context → Parented fs → 0 < e.depth → e.depth ≤ f.depth → has_parent f fs ≡ true → has_parent e fs ≡ true
unfolding has_parent
parent_too e f [] o p z l h = absurd (false≢true h)
parent_too e f (g ∷ gs) o p z l h = go (eqb_tells g.context f.context) (parent_too e g gs) (parent_too e f gs)
  where
    go : ((eqb g.context f.context ≡ true) × (g.context ≡ f.context)) ⊎ ((eqb g.context f.context ≡ false) × (g.context ≡ f.context → ⊥))
        → (g.context ≡ e.context → Parented gs → 0 < e.depth → e.depth ≤ g.depth → has_parent g gs ≡ true → has_parent e gs ≡ true)
        → (f.context ≡ e.context → Parented gs → 0 < e.depth → e.depth ≤ f.depth → has_parent f gs ≡ true → has_parent e gs ≡ true)
        → has_parent e (g ∷ gs) ≡ true
    go (inr n) below on = absurd (false≢true (sym (parent_other f g gs n.1) ∙ h))
    go (inl s) below on =
        by_order g.depth e.depth
        (λ m. by_order (suc g.depth) f.depth
        (λ n. absurd (false≢true (sym (parent_less f g gs s.1 (λ q. absurd (omega arith)) (omega arith)) ∙ h)))
        (λ n. parent_here e g gs (s.1 ∙ o) (omega arith) ∙ sym (parent_here f g gs s.1 (omega arith)) ∙ h))
        (λ m. parent_more e g gs (s.1 ∙ o) (λ q. absurd (omega arith)) m ∙ by_order g.depth f.depth
        (λ n. below (s.1 ∙ o) p.1 z m (p.0 (omega arith)))
        (λ n. on o p.1 z l (sym (parent_more f g gs s.1 (λ q. absurd (omega arith)) n) ∙ h)))

-- So an entry behind one of its context that is as deep or deeper has a parent.
pub parent_level : (e f : Entry) (fs : List Entry) → f.context ≡ e.context → Parented (f ∷ fs) → 0 < e.depth → e.depth ≤ f.depth → has_parent e (f ∷ fs) ≡ true
parent_level e f fs o p z l = parent_more e f fs o (λ q. absurd (omega arith)) l ∙ parent_too e f fs o p.1 z l (p.0 (omega arith))

pub orphan_deep : (d : ℕ) {p q : Bool} → (d ≡ 0 → ⊥) → p ≡ q → ltb 0 d && not p ≡ not q
orphan_deep d h e = rw (lt-ltb 0 d (omega arith), e)

-- The entry at i, and those in front of it.
module _ (es : List Entry) (i : ℕ) where
  pub entries_end : length es ≤ i → drop i es ≡ []
  entries_end h = drop_of_length-le es h

  module _ {e : Entry} (at : e ≡ get_or es i no_entry) (h : i < length es) where
    pub entry_step : drop i es ≡ e ∷ drop (i + 1) es
    entry_step = rw (add-one, drop-cons es i no_entry h, at)

    pub earlier_more : earlier (i + 1) es [] ≡ e ∷ earlier i es []
    earlier_more = rw add-one (earlier_step i es [] e (drop (i + 1) es) entry_step)

pub earlier_one : (es : List Entry) (i : ℕ) {f : Entry} → f ≡ get_or es (i - 1) no_entry → 0 < i → i ≤ length es → earlier i es [] ≡ f ∷ earlier (i - 1) es []
earlier_one es i at z h = let q : i - 1 + 1 ≡ i = omega arith in rw q at (earlier_more es (i - 1) at (omega arith))

-- The parent of e, looked for in front of its place i.
module _ (es : List Entry) (i : ℕ) (e : Entry) where
  pub orphan_first : i ≡ 0 → has_parent e (earlier i es []) ≡ false
  unfolding has_parent earlier
  orphan_first z = rw z

  module _ (f : Entry) (at : f ≡ get_or es (i - 1) no_entry) (z : 0 < i) (h : i ≤ length es) where
    front : earlier i es [] ≡ f ∷ earlier (i - 1) es []
    front = earlier_one es i at z h

    pub before_other : (f.context ≡ e.context → ⊥) → has_parent e (earlier i es []) ≡ false
    before_other o = rw front (parent_other e f _ o)

    module _ (o : f.context ≡ e.context) where
      pub before_level : Parented (earlier i es []) → 0 < e.depth → e.depth ≤ f.depth → has_parent e (earlier i es []) ≡ true
      before_level p d l = rw front (parent_level e f _ o (rw front at p) d l)

      pub before_less : suc f.depth < e.depth → has_parent e (earlier i es []) ≡ false
      before_less l = rw front (parent_less e f _ o (λ q. absurd (omega arith)) (omega arith))

      pub before_here : suc f.depth ≡ e.depth → has_parent e (earlier i es []) ≡ eqb f.kind context_kind
      before_here l = rw front (parent_here e f _ o l)

-- One entry that is not broken more has its parent.
pub parented_more : (most : ℕ) (es : List Entry) (i : ℕ) {e : Entry} → e ≡ get_or es i no_entry → i < length es → is_broken_to most e (earlier i es []) ≡ false → Parented (earlier i es []) → Parented (earlier (i + 1) es [])
unfolding is_broken_to
parented_more most es i {e} at h b p = rw (earlier_more es i at h) (parent, p)
  where
    parent : 0 < e.depth → has_parent e (earlier i es []) ≡ true
    parent z = go (has_parent e (earlier i es [])) (rw (lt-ltb 0 e.depth z) at orphan)
      where
        orphan : (ltb 0 e.depth && not (has_parent e (earlier i es []))) ≡ false
        orphan =
            let x = ltb most e.depth in
            let y = ltb context_kind e.kind in
            let o = ltb 0 e.depth && not (has_parent e (earlier i es [])) in
            or_right (x || y) o (or_left (x || y || o) (is_broken_name e.name) b)

        go : (t : Bool) → not t ≡ false → t ≡ true
        go true q = refl
        go false q = absurd (false≢true (sym q))

-- The loops, at the entry at i.
module _ (es : List Entry) (i : ℕ) {e : Entry} (at : e ≡ get_or es i no_entry) (h : i < length es) where
  pub broken_step : (most : ℕ) → Step (any_broken_to most (earlier i es []) (drop i es)) (is_broken_to most e (earlier i es [])) (any_broken_to most (earlier (i + 1) es []) (drop (i + 1) es))
  unfolding any_broken_to
  broken_step most = record { parts = rw (earlier_more es i at h, entry_step es i at h) }

  pub repeated_step : Step (any_repeated (drop i es)) (is_repeated e (drop (i + 1) es)) (any_repeated (drop (i + 1) es))
  unfolding any_repeated
  repeated_step = record { parts = rw (entry_step es i at h) }

  module _ (n low : ℕ) where
    pub misplaced_here : (e.context < low) ⊎ ((low ≤ e.context) × (n < e.context)) → any_misplaced n low (drop i es) ≡ true
    unfolding any_misplaced
    misplaced_here (inl l) = rw (entry_step es i at h, lt-ltb _ _ l)
    misplaced_here (inr m) = rw (entry_step es i at h, le-ltb e.context low m.0, lt-ltb _ _ m.1)

    pub misplaced_more : low ≤ e.context → e.context ≤ n → any_misplaced n low (drop i es) ≡ any_misplaced n e.context (drop (i + 1) es)
    unfolding any_misplaced
    misplaced_more l m = rw (entry_step es i at h, le-ltb e.context low l, le-ltb n e.context m)

  -- The search for the name of f.
  module _ (f : Entry) {b : Bool} (q : b ≡ (not (eqb e.context f.context) || ltb e.depth f.depth)) where
    pub again_ends : b ≡ true → is_repeated f (drop i es) ≡ false
    unfolding is_repeated
    again_ends t = rw (entry_step es i at h, sym q ∙ t)

    pub again_step : b ≡ false → Step (is_repeated f (drop i es)) (eqb e.depth f.depth && same e.name f.name) (is_repeated f (drop (i + 1) es))
    unfolding is_repeated
    again_step t = record { parts = rw (entry_step es i at h, sym q ∙ t) }

-- Their ends.
module _ (es : List Entry) (i : ℕ) (h : length es ≤ i) where
  pub broken_end : (most : ℕ) (before : List Entry) → any_broken_to most before (drop i es) ≡ false
  unfolding any_broken_to
  broken_end most before = rw (entries_end es i h)

  pub repeated_end : any_repeated (drop i es) ≡ false
  unfolding any_repeated
  repeated_end = rw (entries_end es i h)

  pub misplaced_end : (n low : ℕ) → any_misplaced n low (drop i es) ≡ false
  unfolding any_misplaced
  misplaced_end n low = rw (entries_end es i h)

  pub again_end : (f : Entry) → is_repeated f (drop i es) ≡ false
  unfolding is_repeated
  again_end f = rw (entries_end es i h)

-- The entries of a scope go down to the greatest depth.
pub broken_entry : (e : Entry) (before : List Entry) → is_broken_entry e before ≡ is_broken_to max_depth e before
unfolding is_broken_entry is_broken_to
broken_entry e before = refl

pub broken_all : (before es : List Entry) → any_broken before es ≡ any_broken_to max_depth before es
unfolding any_broken any_broken_to
broken_all before [] = refl
broken_all before (e ∷ es) = rw (broken_entry e before, broken_all (e ∷ before) es)

-- What an entry that is not broken keeps to.
pub record Ranged (most : ℕ) (e : Entry) : Type 0 where
  pub shallow : e.depth ≤ most
  pub kind : e.kind ≤ context_kind
  pub named : is_broken_name e.name ≡ false

pub ranged : (most : ℕ) (before es : List Entry) → any_broken_to most before es ≡ false → (i : ℕ) → i < length es → Ranged most (get_or es i no_entry)
unfolding any_broken_to is_broken_to
ranged most before [] h i l = absurd (omega arith)
ranged most before (e ∷ es) h zero l =
    let d = ltb most e.depth in
    let k = ltb context_kind e.kind in
    let o = ltb 0 e.depth && not (has_parent e before) in
    let n = is_broken_name e.name in
    let b = or_left (is_broken_to most e before) (any_broken_to most (e ∷ before) es) h in
    let c = or_left (d || k) o (or_left (d || k || o) n b) in
    record { shallow = ltb-false most e.depth (or_left d k c); kind = ltb-false context_kind e.kind (or_right d k c); named = or_right (d || k || o) n b }
ranged most before (e ∷ es) h (suc i) l = ranged most (e ∷ before) es (or_right (is_broken_to most e before) (any_broken_to most (e ∷ before) es) h) i (omega arith)
