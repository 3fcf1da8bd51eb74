-- Writing the entries of a list that are left after replacing, and pushing them.
use mathlib.Core.Path.{◌≡◌, refl, sym, ◌∙◌, ap}
use mathlib.Core.Bool.{Bool, true, false}
use mathlib.Core.List.{List, [], ◌∷◌, ◌++◌, map, append-nil, append_assoc}
use Prim.Native.Nat.{ℕ, suc, ◌+◌, ◌-◌, ◌<◌, ◌≤◌, min}
use native.Mathlib.Omega.{arith}
use native.Mathlib.Nat.{add-zero}
use native.Mathlib.Numerals.{add-one}
use lib.ListN.{length, get_or, drop, length-append, length-map}
use Rattle.std.proofs.lemmas.List.{map-append}
use borrow.Author.Tests.{lt-ltb, le-ltb}
use Rattle.text.specs.Refusals.{broken_scope, over_limit}
use Rattle.scope.specs.declared.scope.Scope.{Scope}
use Rattle.scope.specs.Limits.{max_contexts, max_entries, max_depth}
use Rattle.scope.specs.Entries.{Entry}
use Rattle.scope.specs.Settled.{settled_from, settled}
use Rattle.scope.specs.Broken.{any_broken, is_broken_list}
use Rattle.scope.specs.Calls.{changed, refused, push}
use Rattle.scope.specs.Lent.{held, listed, any_outside, scope_of, is_broken, on_scope, push_list}
use Rattle.scope.specs.Listing.{any_broken_to, stays, cut_after, keep, raised}
use Rattle.scope_calls.specs.Written.{Appended}
use Rattle.scope.specs.Answers.{lent}
use Rattle.scope.proofs.HeldLaws.{held-length}
use Rattle.scope.proofs.SoundLaws.{WithinLent, sound}
use Rattle.scope_calls.proofs.UnbrokenLaws.{push_list_leaves}
use Rattle.scope_calls.proofs.WholeLaws.{whole, fits_written}
use Rattle.scope_calls.proofs.WrittenLaws.{appended_none, appended_more, behind}
use Rattle.scope.specs.Viewed.{no_entry}
use Rattle.scope.proofs.BrokenLaws.{entries_end, entry_step, broken_all}
use Rattle.scope.proofs.ListLaws.{settled_parts}

pub raised_none : (es : List Entry) → map (raised 0) es ≡ es
raised_none [] = refl
raised_none (e ∷ es) = rw (add-zero e.depth, raised_none es)

-- The check up to depth 7 is the definition's.
pub any_broken_to_lem : (before es : List Entry) → any_broken_to max_depth before es ≡ any_broken before es
any_broken_to_lem before es = sym (broken_all before es)

-- One entry written, or not.
pub put_none : (ss ns : List (List ℕ)) (at up : ℕ) (e : Entry) {b : Bool} → b ≡ false → Appended ss ns ss ns at at (map (raised up) (keep b e))
unfolding keep
put_none ss ns at up e h = rw h (appended_none ss ns at)

pub put_one : {ss ns ss' ns' : List (List ℕ)} (at up : ℕ) (e : Entry) {b : Bool} → b ≡ true → Appended ss ns ss' ns' at (at + 1) (raised up e ∷ []) → Appended ss ns ss' ns' at (at + 1) (map (raised up) (keep b e))
unfolding keep
put_one at up e h p = rw h p

-- The loop that writes, at i.
pub record Going (ss₀ ns₀ ss ns : List (List ℕ)) (from at up cut i : ℕ) (es : List Entry) : Type 0 where
  pub inside : i ≤ length es
  pub done : List Entry
  pub appended : Appended ss₀ ns₀ ss ns from at (map (raised up) done)
  pub rest : done ++ settled_from cut (drop i es) ≡ settled es

pub going_none : (ss ns : List (List ℕ)) (from up : ℕ) (es : List Entry) → Going ss ns ss ns from from up (suc max_depth) 0 es
going_none ss ns from up es = record { inside = omega arith; done = []; appended = appended_none ss ns from; rest = refl }

settled_end : (cut : ℕ) (es : List Entry) (i : ℕ) → length es ≤ i → settled_from cut (drop i es) ≡ []
unfolding settled_from
settled_end cut es i h = rw (entries_end es i h)

module _ {ss₀ ns₀ ss ns : List (List ℕ)} {from at up cut i : ℕ} {es : List Entry} (g : Going ss₀ ns₀ ss ns from at up cut i es) where
  pub going_all : length es ≤ i → Appended ss₀ ns₀ ss ns from at (map (raised up) (settled es))
  going_all h = rw (← g.rest, settled_end cut es i h, append-nil) g.appended

  module _ (h : i < length es) {e : Entry} (is : e ≡ get_or es i no_entry) {b : Bool} (q : b ≡ stays cut e (drop (i + 1) es)) where
    parts : {c : ℕ} → c ≡ cut_after cut e.depth b → (g.done ++ keep b e) ++ settled_from c (drop (i + 1) es) ≡ settled es
    parts r = append_assoc g.done _ _ ∙ ap (λ z. g.done ++ z) (sym (ap (settled_from cut) (entry_step es i is h) ∙ settled_parts cut e (drop (i + 1) es) ∙ rw (r, q))) ∙ g.rest

    pub going_more : {c : ℕ} → c ≡ cut_after cut e.depth b → {ss' ns' : List (List ℕ)} {to : ℕ} → Appended ss ns ss' ns' at to (map (raised up) (keep b e)) → Going ss₀ ns₀ ss' ns' from to up c (i + 1) es
    going_more r p = record {
      inside = omega arith;
      done = g.done ++ keep b e;
      appended = rw (map-append (raised up) g.done (keep b e)) (appended_more g.appended p);
      rest = parts r;
    }

    -- There is room for an entry that stays.
    pub going_room : b ≡ true → at < from + length (settled es)
    unfolding keep
    going_room t =
        let z = rw (length-append, length-append, t) at (ap length (parts {c = cut_after cut e.depth b} refl)) in
        omega (arith, z, g.appended.place, length-map g.done (raised up))

-- Whether an entry stays, as it is asked by its place.
pub stays_as : (es fs : List Entry) (i cut : ℕ) {e : Entry} {b : Bool} → e ≡ get_or es i no_entry → b ≡ stays cut (get_or es i no_entry) fs → b ≡ stays cut e fs
stays_as es fs i cut p q = q ∙ sym (ap (λ z. stays cut z fs) p)

-- A checked list in the terms of what was lent.
pub listed_as : {k' k : ℕ} {cs' cs : List ℕ} {rs' rs : List (List ℕ)} → (k' ≡ k) × (rs' ≡ rs) × (cs' ≡ cs) → listed k' cs' rs' ≡ listed k cs rs
listed_as p = rw (p.0, p.1, p.2)

pub inside_as : {k' k : ℕ} {cs' cs : List ℕ} {rs' rs : List (List ℕ)} → (k' ≡ k) × (rs' ≡ rs) × (cs' ≡ cs) → any_outside cs' rs' ≡ false → any_outside cs rs ≡ false
inside_as p h = rw (← p.1, ← p.2) h

pub broken_as : (most : ℕ) {b t : Bool} {k' k : ℕ} {cs' cs : List ℕ} {rs' rs : List (List ℕ)} → (k' ≡ k) × (rs' ≡ rs) × (cs' ≡ cs) → b ≡ any_broken_to most [] (listed k' cs' rs') → b ≡ t → any_broken_to most [] (listed k cs rs) ≡ t
broken_as most p q t = sym (q ∙ ap (any_broken_to most []) (listed_as p)) ∙ t

-- A number within the limit was counted to its end.
pub few : {n l : ℕ} → n ≡ min (suc max_entries) l → n ≤ max_entries → n ≡ l
few m h = omega arith

-- What the call has found before it asks of the list: a scope and spans that are not broken, and the list is that of the context that is pushed.
pub record Asked (s : Scope) (ss ns : List (List ℕ)) (cs : List ℕ) (rs : List (List ℕ)) (k : ℕ) : Type 0 where
  pub ok : is_broken (lent s ss ns) ≡ false
  pub limits : WithinLent (lent s ss ns)
  pub inside : any_outside cs rs ≡ false
  pub next : k ≡ suc s.contexts

-- The call.
module _ {s : Scope} {ss ns : List (List ℕ)} {cs : List ℕ} {rs : List (List ℕ)} {k : ℕ} (g : Asked s ss ns cs rs k) where
  broken : is_broken_list (listed (suc s.contexts) cs rs) ≡ any_broken_to max_depth [] (listed k cs rs)
  broken = rw g.next (sym (any_broken_to_lem [] (listed (suc s.contexts) cs rs)))

  pub push_broken : any_broken_to max_depth [] (listed k cs rs) ≡ true → refused broken_scope ≡ on_scope (lent s ss ns) (push_list cs rs)
  unfolding push
  push_broken v = rw (g.ok, g.inside, broken ∙ v)

  module _ (v : any_broken_to max_depth [] (listed k cs rs) ≡ false) where
    pub push_many : max_contexts ≤ s.contexts → refused over_limit ≡ on_scope (lent s ss ns) (push_list cs rs)
    unfolding push
    push_many h = rw (g.ok, g.inside, broken ∙ v, lt-ltb max_contexts (suc s.contexts) (omega arith))

    module _ (h : s.contexts < max_contexts) {n : ℕ} (m₀ : n ≡ min (suc max_entries) (length (settled (listed k cs rs)))) where
      m : n ≡ min (suc max_entries) (length (settled (listed (suc s.contexts) cs rs)))
      m = rw g.next at m₀

      total : length (held s.entries ss ns ++ settled (listed (suc s.contexts) cs rs)) ≡ s.entries + length (settled (listed (suc s.contexts) cs rs))
      total = let l = g.limits in length-append (held s.entries ss ns) _ ∙ rw (held-length s.entries ss ns (omega arith) (omega arith))

      pub push_full : max_entries - s.entries < n → refused over_limit ≡ on_scope (lent s ss ns) (push_list cs rs)
      unfolding push
      push_full f =
          let l = g.limits in
          rw (g.ok, g.inside, broken ∙ v, le-ltb max_contexts (suc s.contexts) (omega arith), total, lt-ltb max_entries (s.entries + length (settled (listed (suc s.contexts) cs rs))) (omega (arith, m)))

      module _ {ss' ns' : List (List ℕ)} {to : ℕ} (f : n ≤ max_entries - s.entries) (a : Appended ss ns ss' ns' s.entries to (map (raised 0) (settled (listed k cs rs)))) where
        pub push_done : changed (scope_of (lent (record { contexts = s.contexts + 1; entries = to; parsed = s.parsed }) ss' ns')) ≡ on_scope (lent s ss ns) (push_list cs rs)
        unfolding push
        push_done =
            let l = g.limits in
            let e : s.contexts + 1 ≡ suc s.contexts = add-one s.contexts in
            let a₁ = rw (raised_none (settled (listed k cs rs)), g.next) at a in
            let z : to ≤ max_entries = omega (arith, a₁.place, m) in
            rw (g.ok, g.inside, broken ∙ v, le-ltb max_contexts (suc s.contexts) (omega arith), total, le-ltb max_entries (s.entries + length (settled (listed (suc s.contexts) cs rs))) (omega (arith, m)), e, a₁.reads, behind ss' ss z a₁.slots_behind, behind ns' ns z a₁.names_behind)

        pub push_whole : is_broken (lent (record { contexts = s.contexts + 1; entries = to; parsed = s.parsed }) ss' ns') ≡ false
        push_whole =
            let l = g.limits in
            let z : to ≤ max_entries = omega (arith, a.place, m₀, length-map (settled (listed k cs rs)) (raised 0)) in
            whole (lent s ss ns) (lent (record { contexts = s.contexts + 1; entries = to; parsed = s.parsed }) ss' ns') (push_list cs rs) (λ y u. push_list_leaves y u cs rs) push_done
            (fits_written (sound (lent s ss ns) g.ok) (s.contexts + 1) s.entries to (omega arith) (omega arith) z a.as_many_slots a.as_many_names a.short (behind ss' ss z a.slots_behind))
