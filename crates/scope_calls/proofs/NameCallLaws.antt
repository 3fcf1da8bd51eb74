-- Naming in the last context, as the calls answer it.
use mathlib.Core.Path.{◌≡◌, refl, sym, ◌∙◌, ap, subst}
use mathlib.Core.Bool.{true, false, ◌&&◌, ◌||◌, not}
use mathlib.Core.List.{List, [], ◌∷◌, ◌++◌, map, append_assoc}
use Prim.Native.Nat.{ℕ, suc, ◌+◌, ◌-◌, ◌<◌, ◌≤◌}
use native.Mathlib.Omega.{arith}
use lib.ListN.{length, take, drop, length-append, length-map}
use lib.Dec.{ltb}
use borrow.Author.Tests.{ne_eqb, lt-ltb, le-ltb}
use Rattle.reading.proofs.Test.{or_left, or_right}
use Rattle.text.specs.Refusals.{broken_scope, over_limit}
use Rattle.scope.specs.declared.scope.Scope.{Scope}
use Rattle.scope.specs.Limits.{max_contexts, max_entries, max_depth}
use Rattle.scope.specs.Entries.{Entry, variable, context_kind}
use Rattle.scope.specs.Settled.{settled}
use Rattle.scope.specs.Broken.{is_broken_name, has_parent, is_broken_entry, any_broken, is_broken_list}
use Rattle.scope.specs.Calls.{Changed, changed, refused, under, top, deeper, added, set_entry_name, set_context}
use Rattle.scope.specs.Lent.{held, listed, any_outside, scope_of, is_broken, on_scope, set_context_list}
use Rattle.scope.specs.Listing.{any_broken_to, raised}
use Rattle.scope_calls.specs.Written.{Appended}
use Rattle.scope_calls.specs.Naming.{without, headed, Moved}
use Rattle.scope.specs.Answers.{lent}
use Rattle.scope.proofs.HeldLaws.{held-length}
use Rattle.scope.proofs.SoundLaws.{Sound, sound}
use Rattle.lists.proofs.OneContext.{AllIn, listed_in}
use Rattle.scope_calls.proofs.UnbrokenLaws.{Leaves, added_leaves}
use Rattle.scope_calls.proofs.WholeLaws.{not_broken, unbroken_of, fits_written}
use Rattle.scope_calls.proofs.SettlesLaws.{top_in, top_distinct, settles}
use Rattle.scope_calls.proofs.DeeperLaws.{list_below, deeper_below, deeper_in, deeper-raised, settled_below}
use Rattle.scope_calls.proofs.NamingLaws.{moved_appended}
use Rattle.scope_calls.proofs.StackLaws.{held_count}
use Rattle.scope_calls.proofs.WrittenLaws.{take-held}

-- What a call has found before it writes: where the last context begins, and how many of its entries stay.
pub record Found (s : Scope) (ss ns : List (List ℕ)) (x : List ℕ) (from left : ℕ) : Type 0 where
  pub sound : Sound (lent s ss ns)
  pub few : from ≤ s.entries
  pub within : from + left ≤ s.entries
  pub under : take from (held s.entries ss ns) ≡ under s.contexts (held s.entries ss ns)
  pub top : drop from (held s.entries ss ns) ≡ top s.contexts (held s.entries ss ns)
  pub stay : left ≡ length (without (suc max_depth) x (drop from (held s.entries ss ns)))

pub found : (s : Scope) (ss ns : List (List ℕ)) → is_broken (lent s ss ns) ≡ false → (x : List ℕ) {from left : ℕ} {es : List Entry} → es ≡ held s.entries ss ns
    → (from ≤ length es) × (take from es ≡ under s.contexts es) × (drop from es ≡ top s.contexts es) → (from + left ≤ length es) × (left ≡ length (without (suc max_depth) x (drop from es))) → Found s ss ns x from left
found s ss ns ok x e b l =
    let b₁ = rw e at b in
    let l₁ = rw e at l in
    record { sound = sound (lent s ss ns) ok; few = rw (held_count s ss ns ok) at b₁.0; within = rw (held_count s ss ns ok) at l₁.0; under = b₁.1; top = b₁.2; stay = l₁.1 }

-- The new entry and the list behind it.
pub new_place : {ss ns ss' ns' : List (List ℕ)} {from to left back : ℕ} (w : List Entry) (e : Entry) → left ≡ length w → Moved ss ns ss' ns' from to back (w ++ (e ∷ [])) → to ≡ from + left + 1
new_place w e l a = omega (arith, l, a.place, length-append w (e ∷ []))

module _ {s : Scope} {ss ns : List (List ℕ)} {x : List ℕ} {from left : ℕ} (f : Found s ss ns x from left) (kind : ℕ) (es : List Entry) (own : AllIn s.contexts es) (low : any_broken_to (max_depth - 1) [] es ≡ false) where
  abbrev stay : List Entry
  stay = without (suc max_depth) x (drop from (held s.entries ss ns))

  abbrev new : Entry
  new = record { context = s.contexts; depth = 0; kind = kind; name = x }

  -- The rows as they are written.
  abbrev pub AddedRows : List (List ℕ) → List (List ℕ) → ℕ → Type 0
  AddedRows ss' ns' to = Moved ss ns ss' ns' from to max_entries (stay ++ (new ∷ settled (map deeper es)))

  pub added_rows : {ss' ns' ss'' ns'' : List (List ℕ)} {to end : ℕ} → Moved ss ns ss' ns' from to max_entries (stay ++ (new ∷ [])) → Appended ss' ns' ss'' ns'' to end (map (raised 1) (settled es))
      → from + left + length (settled es) < max_entries → AddedRows ss'' ns'' end
  added_rows a p h =
      let z = new_place stay new f.stay a in
      let k = length-map (settled es) (raised 1) in
      let q = moved_appended {back' = max_entries} a p (omega arith) (omega (arith, p.place)) in
      rw (settled_below es low, ← deeper-raised (settled es)) (rw (append_assoc stay (new ∷ []) (map (raised 1) (settled es))) at q)

  parts : under s.contexts (held s.entries ss ns) ++ settled (top s.contexts (held s.entries ss ns) ++ (new ∷ map deeper es)) ≡ held from ss ns ++ (stay ++ (new ∷ settled (map deeper es)))
  parts =
      let u = sym (take-held from s.entries ss ns f.few) ∙ f.under in
      rw (u, f.top, settles s.contexts kind x (map deeper es) (deeper_below s.contexts es own) (suc max_depth) (top s.contexts (held s.entries ss ns)) (top_in s.contexts 1 (held s.entries ss ns) f.sound.placed) (top_distinct s.contexts (held s.entries ss ns) f.sound.distinct) (omega arith))

  total : length (held from ss ns ++ (stay ++ (new ∷ settled (map deeper es)))) ≡ from + (left + suc (length (settled es)))
  total =
      let k = f.sound.limits in
      let few = f.few in
      length-append (held from ss ns) _ ∙ rw (held-length from ss ns (omega arith) (omega arith), length-append, ← f.stay, settled_below es low, length-map)

  module _ (z : s.contexts ≡ 0 → ⊥) where
    pub added_full : max_entries ≤ from + left + length (settled es) → refused over_limit ≡ added (headed s.contexts kind x es) (scope_of (lent s ss ns))
    added_full h =
        let k = f.sound.limits in
        rw (ne_eqb _ _ z, le-ltb max_contexts s.contexts (omega arith), parts, total, lt-ltb max_entries (from + (left + suc (length (settled es)))) (omega arith))

    module _ (h : from + left + length (settled es) < max_entries) {ss' ns' : List (List ℕ)} {to : ℕ} (a : AddedRows ss' ns' to) where
      pub added_done : changed (scope_of (lent (record { contexts = s.contexts; entries = to; parsed = s.parsed }) ss' ns')) ≡ added (headed s.contexts kind x es) (scope_of (lent s ss ns))
      added_done =
          let k = f.sound.limits in
          rw (ne_eqb _ _ z, le-ltb max_contexts s.contexts (omega arith), parts, total, le-ltb max_entries (from + (left + suc (length (settled es)))) (omega arith), a.reads, a.slots_behind, a.names_behind)

      pub added_whole : is_broken_list (headed s.contexts kind x es) ≡ false → is_broken (lent (record { contexts = s.contexts; entries = to; parsed = s.parsed }) ss' ns') ≡ false
      added_whole b =
          let l = f.sound.limits in
          let room : to ≤ max_entries = omega (arith, a.place, f.stay, length-append stay (new ∷ settled (map deeper es)), ap length (settled_below es low), length-map (settled es) deeper) in
          not_broken (lent (record { contexts = s.contexts; entries = to; parsed = s.parsed }) ss' ns') (fits_written f.sound s.contexts from to (omega arith) f.few room a.as_many_slots a.as_many_names a.short a.slots_behind)
          (subst Leaves (sym added_done) (added_leaves (scope_of (lent s ss ns)) (unbroken_of (lent s ss ns) f.sound) (new ∷ map deeper es) (refl, deeper_in s.contexts es own) b))

-- The name of a list's first entry.
pub named_first : (e : Entry) (es : List Entry) → is_broken_list (e ∷ es) ≡ false → is_broken_name e.name ≡ false
unfolding any_broken is_broken_entry
named_first e es h =
    or_right (ltb max_depth e.depth || ltb context_kind e.kind || (ltb 0 e.depth && not (has_parent e []))) (is_broken_name e.name)
    (or_left (is_broken_entry e []) (any_broken (e ∷ []) es) h)

module _ (s : Scope) (ss ns : List (List ℕ)) (ok : is_broken (lent s ss ns) ≡ false) (x : List ℕ) where
  pub entry_broken : is_broken_name x ≡ true → refused broken_scope ≡ on_scope (lent s ss ns) (set_entry_name x)
  unfolding set_entry_name
  entry_broken u = rw (ok, u)

  pub entry-added : is_broken_name x ≡ false → {r : Changed} → r ≡ added (record { context = s.contexts; depth = 0; kind = variable; name = x } ∷ []) (scope_of (lent s ss ns)) → r ≡ on_scope (lent s ss ns) (set_entry_name x)
  unfolding set_entry_name
  entry-added u e = e ∙ rw (ok, u)

module _ (s : Scope) (ss ns : List (List ℕ)) (ok : is_broken (lent s ss ns) ≡ false) (x cs : List ℕ) (rs : List (List ℕ)) where
  module _ (u : any_outside cs rs ≡ false) where
    pub context_name : is_broken_name x ≡ true → refused broken_scope ≡ on_scope (lent s ss ns) (set_context_list x cs rs)
    unfolding set_context
    context_name v = rw (ok, u, list_below s.contexts x (listed s.contexts cs rs) (listed_in s.contexts cs rs), v)

    module _ (v : is_broken_name x ≡ false) where
      pub context_broken : any_broken_to (max_depth - 1) [] (listed s.contexts cs rs) ≡ true → refused broken_scope ≡ on_scope (lent s ss ns) (set_context_list x cs rs)
      unfolding set_context
      context_broken y = rw (ok, u, list_below s.contexts x (listed s.contexts cs rs) (listed_in s.contexts cs rs), v, y)

      pub context_added : any_broken_to (max_depth - 1) [] (listed s.contexts cs rs) ≡ false → {a : Changed} → a ≡ added (record { context = s.contexts; depth = 0; kind = context_kind; name = x } ∷ map deeper (listed s.contexts cs rs)) (scope_of (lent s ss ns))
          → a ≡ on_scope (lent s ss ns) (set_context_list x cs rs)
      unfolding set_context
      context_added y e = e ∙ rw (ok, u, list_below s.contexts x (listed s.contexts cs rs) (listed_in s.contexts cs rs), v, y)
