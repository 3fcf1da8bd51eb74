-- Popping, and pushing an empty context.
use mathlib.Core.Path.{◌≡◌, refl, ◌∙◌, ap}
use mathlib.Core.Bool.{Bool, true, false, cond}
use mathlib.Core.List.{List, [], ◌∷◌, append-nil}
use Prim.Native.Nat.{ℕ, suc, ◌+◌, ◌-◌, ◌<◌, ◌≤◌}
use native.Mathlib.Omega.{arith}
use native.Mathlib.Numerals.{add-one, one-add}
use lib.Dec.{ltb}
use Rattle.std.specs.List.{prefix_len, take_while}
use Rattle.std.proofs.lemmas.List.Folds.{length-prefix_len}
use lib.ListN.{length, get_or, take, drop}
use borrow.Author.Tests.{eq-eqb, ne_eqb, lt-ltb, le-ltb}
use Rattle.text.specs.Refusals.{over_limit}
use Rattle.scope.specs.declared.scope.Scope.{Scope}
use Rattle.scope.specs.Limits.{max_contexts, max_entries}
use Rattle.scope.specs.Settled.{settled_from}
use Rattle.scope.specs.Broken.{any_broken}
use Rattle.scope.specs.Calls.{changed, refused, under, top, push, push_default, pop}
use Rattle.scope.specs.Entries.{Entry}
use Rattle.scope.specs.Lent.{entry_of, held, scope_of, is_broken, on_scope}
use Rattle.scope.specs.Rows.{all_held}
use Rattle.scope.specs.Answers.{lent}
use Rattle.scope.proofs.HeldLaws.{held-length}
use Rattle.scope_calls.proofs.WrittenLaws.{take-held}
use Rattle.scope.proofs.SoundLaws.{sound}
use Rattle.scope_calls.proofs.UnbrokenLaws.{pop_leaves, push_leaves}
use Rattle.scope_calls.proofs.WholeLaws.{whole, fits_fewer}

-- The entries before context k: those of the rows in front whose context is less.
module _ (k : ℕ) where
  abbrev lower : List ℕ → Bool
  lower s = ltb (get_or s 0 0) k

  abbrev Parted : ℕ → List Entry → List Entry → List Entry → Type 0
  Parted r es low rest = (r ≤ length es) × (take r es ≡ low) × (drop r es ≡ rest)

  parted : (b : Bool) (m : ℕ) (e : Entry) (es : List Entry) {low rest : List Entry} → Parted m es low rest → Parted (cond b (1 + m) 0) (e ∷ es) (cond b (e ∷ low) []) (cond b rest (e ∷ es))
  parted true m e es h = rw one-add (omega arith, ap (λ z. e ∷ z) h.1, h.2)
  parted false m e es h = (omega arith, refl, refl)

  rows_parted : (ss ns : List (List ℕ)) → length ss ≡ length ns → Parted (prefix_len lower ss) (all_held ss ns) (under k (all_held ss ns)) (top k (all_held ss ns))
  unfolding held under top
  rows_parted [] ns p = (omega arith, refl, refl)
  rows_parted (s ∷ ss) [] p = absurd (omega arith)
  rows_parted (s ∷ ss) (n ∷ ns) p = parted (lower s) _ (entry_of s n) _ (rows_parted ss ns (omega arith))

  pub before_parted : (ss ns : List (List ℕ)) → length ss ≡ length ns → {r : ℕ} → r ≡ length (take_while lower ss) → Parted r (all_held ss ns) (under k (all_held ss ns)) (top k (all_held ss ns))
  before_parted ss ns p h = rw (h, length-prefix_len lower ss) (rows_parted ss ns p)

-- The entries of a checked scope are those of the scope that was lent.
pub held_as : {es : List Entry} {s' s : Scope} {ss' ss ns' ns : List (List ℕ)} {R : Type 0} → es ≡ held s'.entries ss' ns' → (s' ≡ s) × (ss' ≡ ss) × (ns' ≡ ns) × R → es ≡ held s.entries ss ns
held_as e p = e ∙ rw (p.0, p.1, p.2)

module _ (s : Scope) (ss ns : List (List ℕ)) (ok : is_broken (lent s ss ns) ≡ false) where
  pub pop_empty : s.contexts ≡ 0 → changed (scope_of (lent s ss ns)) ≡ on_scope (lent s ss ns) pop
  unfolding pop
  pop_empty e = rw (ok, eq-eqb _ _ e)

  -- Their number.
  pub held_count : length (held s.entries ss ns) ≡ s.entries
  held_count = let w = (sound (lent s ss ns) ok).limits in held-length s.entries ss ns (omega arith) (omega arith)

  pub pop-one : (r : ℕ) → (s.contexts ≡ 0 → ⊥) → r ≤ s.entries → take r (held s.entries ss ns) ≡ under s.contexts (held s.entries ss ns)
      → changed (scope_of (lent (record { contexts = s.contexts - 1; entries = r; parsed = s.parsed }) ss ns)) ≡ on_scope (lent s ss ns) pop
  unfolding pop
  pop-one r e f u = rw (ok, ne_eqb _ _ e, ← take-held r s.entries ss ns f, u)

  pub pop_whole : (r : ℕ) → (s.contexts ≡ 0 → ⊥) → r ≤ s.entries → take r (held s.entries ss ns) ≡ under s.contexts (held s.entries ss ns)
      → is_broken (lent (record { contexts = s.contexts - 1; entries = r; parsed = s.parsed }) ss ns) ≡ false
  pop_whole r e f u =
      let w = sound (lent s ss ns) ok in
      let l = w.limits in
      whole (lent s ss ns) (lent (record { contexts = s.contexts - 1; entries = r; parsed = s.parsed }) ss ns) pop pop_leaves (pop-one r e f u) (fits_fewer w (s.contexts - 1) r (omega arith) f)

  pub push_full : max_contexts ≤ s.contexts → refused over_limit ≡ on_scope (lent s ss ns) push_default
  unfolding push any_broken
  push_full e = rw (ok, lt-ltb max_contexts (suc s.contexts) (omega arith))

  pub push_empty : s.contexts < max_contexts → changed (scope_of (lent (record { contexts = s.contexts + 1; entries = s.entries; parsed = s.parsed }) ss ns)) ≡ on_scope (lent s ss ns) push_default
  unfolding push any_broken settled_from
  push_empty e =
      let w = (sound (lent s ss ns) ok).limits in
      rw (ok, le-ltb max_contexts (suc s.contexts) (omega arith), append-nil (held s.entries ss ns), held-length s.entries ss ns (omega arith) (omega arith), le-ltb max_entries s.entries (omega arith), add-one)

  pub push_empty_whole : s.contexts < max_contexts → is_broken (lent (record { contexts = s.contexts + 1; entries = s.entries; parsed = s.parsed }) ss ns) ≡ false
  push_empty_whole e =
      let w = sound (lent s ss ns) ok in
      whole (lent s ss ns) (lent (record { contexts = s.contexts + 1; entries = s.entries; parsed = s.parsed }) ss ns) push_default (λ z u. push_leaves z u [] tt) (push_empty e) (fits_fewer w (s.contexts + 1) s.entries (omega arith) (omega arith))
