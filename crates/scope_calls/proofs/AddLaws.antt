-- Adding a parsed name.
use mathlib.Core.Path.{◌≡◌, refl, sym, ◌∙◌, ap}
use mathlib.Core.Bool.{Bool, true, false}
use mathlib.Core.List.{List, [], ◌∷◌, ◌++◌}
use Prim.Native.Nat.{ℕ, suc, ◌+◌, ◌<◌, ◌≤◌}
use native.Mathlib.Omega.{arith}
use lib.ListN.{length, drop, length-drop, length-map}
use Rattle.std.proofs.lemmas.List.{map-append}
use lib.Seq.{drop-append-le, take-append-le}
use borrow.Author.Tests.{lt-ltb, le-ltb}
use Rattle.text.specs.Refusals.{broken_scope, over_limit}
use Rattle.names.specs.Same.{member}
use Rattle.scope.specs.declared.scope.Scope.{Scope}
use Rattle.scope.specs.Limits.{max_entries, max_parsed}
use Rattle.scope.specs.Entries.{Entry}
use Rattle.scope.specs.Broken.{is_broken_name}
use Rattle.scope.specs.Calls.{changed, refused, add_parsed_name}
use Rattle.scope.specs.Lent.{held, scope_of, is_broken, on_scope}
use Rattle.scope.specs.Rows.{parsed_names}
use Rattle.scope_calls.specs.Written.{Appended}
use Rattle.scope.specs.Answers.{lent}
use Rattle.scope.proofs.HeldLaws.{held-length}
use Rattle.scope_calls.proofs.WrittenLaws.{take-held, drop-held}
use Rattle.scope.proofs.SoundLaws.{sound}
use Rattle.scope_calls.proofs.UnbrokenLaws.{parsed_leaves}
use Rattle.scope_calls.proofs.WholeLaws.{whole, fits_parsed}

-- One row written behind those of the parsed names.
module _ {ss ns ss' ns' : List (List ℕ)} (k n : ℕ) (e : Entry) (few : k ≤ max_entries) (h : max_entries + n < length ss) (j : max_entries + n < length ns)
    (a : Appended ss ns ss' ns' (max_entries + n) (max_entries + n + 1) (e ∷ [])) where
  pub same_entries : held k ss' ns' ≡ held k ss ns
  same_entries =
      sym (take-held k (max_entries + n + 1) ss' ns' (omega arith))
      ∙ rw a.reads (take-append-le k (held (max_entries + n) ss ns) _ (rw (held-length (max_entries + n) ss ns (omega arith) (omega arith)) (omega arith)) ∙ take-held k (max_entries + n) ss ns (omega arith))

  one-held : held (n + 1) (drop max_entries ss') (drop max_entries ns') ≡ held n (drop max_entries ss) (drop max_entries ns) ++ (e ∷ [])
  one-held =
      sym (drop-held max_entries (n + 1) (max_entries + n + 1) ss' ns' (omega arith) (rw a.as_many_slots (omega arith)) (rw a.as_many_names (omega arith)))
      ∙ rw a.reads (drop-append-le max_entries (held (max_entries + n) ss ns) _ (rw (held-length (max_entries + n) ss ns (omega arith) (omega arith)) (omega arith))
      ∙ ap (λ z. z ++ (e ∷ [])) (drop-held max_entries n (max_entries + n) ss ns refl (omega arith) (omega arith)))

  pub one_parsed : parsed_names (n + 1) ss' ns' ≡ parsed_names n ss ns ++ (e.name ∷ [])
  one_parsed = rw one-held (map-append (λ f. f.name) (held n (drop max_entries ss) (drop max_entries ns)) (e ∷ []))

-- Whether a name is one of the parsed ones of the scope that was lent, as it is asked of the checked one.
pub known_as : (x : List ℕ) {b t : Bool} {ps : List (List ℕ)} {s' s : Scope} {ss' ss ns' ns : List (List ℕ)} {R : Type 0} → b ≡ member x (drop 0 ps) → ps ≡ parsed_names s'.parsed ss' ns' → (s' ≡ s) × (ss' ≡ ss) × (ns' ≡ ns) × R → b ≡ t
    → member x (parsed_names s.parsed ss ns) ≡ t
known_as x q e p t = sym (q ∙ ap (member x) (e ∙ rw (p.0, p.1, p.2))) ∙ t

module _ (x : List ℕ) (s : Scope) (ss ns : List (List ℕ)) (ok : is_broken (lent s ss ns) ≡ false) where
  pub add_broken : is_broken_name x ≡ true → refused broken_scope ≡ on_scope (lent s ss ns) (add_parsed_name x)
  unfolding add_parsed_name
  add_broken u = rw (ok, u)

  module _ (u : is_broken_name x ≡ false) where
    pub add_known : member x (parsed_names s.parsed ss ns) ≡ true → changed (scope_of (lent s ss ns)) ≡ on_scope (lent s ss ns) (add_parsed_name x)
    unfolding add_parsed_name
    add_known v = rw (ok, u, v)

    module _ (v : member x (parsed_names s.parsed ss ns) ≡ false) where
      count : length (parsed_names s.parsed ss ns) ≡ s.parsed
      count =
          let w = (sound (lent s ss ns) ok).limits in
          length-map (held s.parsed (drop max_entries ss) (drop max_entries ns)) (λ f. f.name) ∙ held-length s.parsed (drop max_entries ss) (drop max_entries ns) (rw length-drop (omega arith)) (rw length-drop (omega arith))

      pub add_full : max_parsed ≤ s.parsed → refused over_limit ≡ on_scope (lent s ss ns) (add_parsed_name x)
      unfolding add_parsed_name
      add_full f = rw (ok, u, v, count, lt-ltb max_parsed (suc s.parsed) (omega arith))

      pub add_new : {ss' ns' : List (List ℕ)} (d k l : ℕ) → s.parsed < max_parsed
          → Appended ss ns ss' ns' (max_entries + s.parsed) (max_entries + s.parsed + 1) (record { context = d; depth = k; kind = l; name = x } ∷ [])
          → changed (scope_of (lent (record { contexts = s.contexts; entries = s.entries; parsed = s.parsed + 1 }) ss' ns')) ≡ on_scope (lent s ss ns) (add_parsed_name x)
      unfolding add_parsed_name
      add_new d k l f a =
          let w = (sound (lent s ss ns) ok).limits in
          rw (
            ok,
            u,
            v,
            count,
            le-ltb max_parsed (suc s.parsed) (omega arith),
            same_entries s.entries s.parsed (record { context = d; depth = k; kind = l; name = x }) (omega arith) (omega arith) (omega arith) a,
            one_parsed s.entries s.parsed (record { context = d; depth = k; kind = l; name = x }) (omega arith) (omega arith) (omega arith) a,
          )

      pub add_whole : {ss' ns' : List (List ℕ)} (d k l : ℕ) → s.parsed < max_parsed
          → Appended ss ns ss' ns' (max_entries + s.parsed) (max_entries + s.parsed + 1) (record { context = d; depth = k; kind = l; name = x } ∷ [])
          → is_broken (lent (record { contexts = s.contexts; entries = s.entries; parsed = s.parsed + 1 }) ss' ns') ≡ false
      add_whole {ss'} {ns'} d k l f a =
          whole (lent s ss ns) (lent (record { contexts = s.contexts; entries = s.entries; parsed = s.parsed + 1 }) ss' ns') (add_parsed_name x) (λ z y. parsed_leaves z y x) (add_new d k l f a) (fits_parsed (sound (lent s ss ns) ok) f a)
