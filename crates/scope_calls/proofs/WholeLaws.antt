-- An accepted call leaves a lent scope that is not broken: the rows fit, and the model is unbroken.
use mathlib.Core.Path.{◌≡◌, refl, sym, subst}
use mathlib.Core.Bool.{Bool, true, false, cond}
use mathlib.Core.List.{List, [], ◌∷◌}
use Prim.Native.Nat.{ℕ, zero, suc, ◌+◌, ◌<◌, ◌≤◌}
use native.Mathlib.Omega.{arith}
use lib.ListN.{length, drop, length-drop}
use lib.Seq.{get_or-drop}
use borrow.Author.Tests.{le-ltb}
use Rattle.text.specs.Refusals.{broken_scope}
use Rattle.scope.specs.declared.scope.Scope.{Scope}
use Rattle.scope.specs.Limits.{max_contexts, max_entries, max_parsed, max_name}
use Rattle.scope.specs.Entries.{Entry, ParsingScope}
use Rattle.scope.specs.Calls.{Changed, changed, refused}
use Rattle.scope.specs.Lent.{Lent, scope_of, any_too_long, is_broken, on_scope}
use Rattle.scope.specs.Rows.{name_length}
use Rattle.scope_calls.specs.Written.{Appended}
use Rattle.scope.specs.Answers.{lent}
use Rattle.scope.proofs.HeldLaws.{short_at}
use Rattle.scope.proofs.SoundLaws.{WithinLent, Sound, sound}
use Rattle.scope_calls.proofs.UnbrokenLaws.{Unbroken, Leaves}

-- What the rows and counts of a lent scope keep to.
pub record Fits (l : Lent) : Type 0 where
  pub limits : WithinLent l
  pub short_entries : any_too_long l.entries l.slots ≡ false
  pub short_parsed : any_too_long l.parsed (drop max_entries l.slots) ≡ false

pub unbroken_of : (l : Lent) → Sound l → Unbroken (scope_of l)
unbroken_of l s = record { placed = s.placed; unbroken = s.unbroken; distinct = s.distinct; unbroken_set = s.unbroken_set }

pub not_broken : (l : Lent) → Fits l → Unbroken (scope_of l) → is_broken l ≡ false
unfolding is_broken
not_broken l f u =
    let w = f.limits in
    rw (
      le-ltb max_contexts l.contexts w.few_contexts,
      le-ltb max_entries l.entries w.few_entries,
      le-ltb max_parsed l.parsed w.few_parsed,
      le-ltb (length l.slots) (max_entries + max_parsed) w.slots_there,
      le-ltb (length l.names) (max_entries + max_parsed) w.names_there,
      f.short_entries,
      f.short_parsed,
      u.placed,
      u.unbroken,
      u.distinct,
      u.unbroken_set,
    )

abbrev IsAccepted : Changed → Type 0
IsAccepted (changed s) = Unit {0}
IsAccepted (refused n) = ⊥

-- The clause, for a call that leaves the model unbroken.
pub whole : (l l' : Lent) (call : ParsingScope → Changed) → ((s : ParsingScope) → Unbroken s → Leaves (call s)) → changed (scope_of l') ≡ on_scope l call → Fits l' → is_broken l' ≡ false
whole l l' call keeps e f = go (is_broken l) refl e
  where
    go : (b : Bool) → is_broken l ≡ b → changed (scope_of l') ≡ cond b (refused broken_scope) (call (scope_of l)) → is_broken l' ≡ false
    go true q k = absurd (subst IsAccepted k tt)
    go false q k = not_broken l' f (subst Leaves (sym k) (keeps (scope_of l) (unbroken_of l (sound l q))))

-- Name lengths, row by row.
all_short : (k : ℕ) (ss : List (List ℕ)) → ((i : ℕ) → i < k → name_length ss i ≤ max_name) → any_too_long k ss ≡ false
unfolding any_too_long
all_short zero ss f = refl
all_short (suc k) [] f = refl
all_short (suc k) (s ∷ ss) f = rw (le-ltb max_name _ (f 0 (omega arith))) (all_short k ss (λ i l. f (suc i) (omega arith)))

module _ {s : Scope} {ss ns : List (List ℕ)} (h : Sound (lent s ss ns)) where
  short_entry : (i : ℕ) → i < s.entries → name_length ss i ≤ max_name
  short_entry i l = let w = h.limits in short_at s.entries ss i h.short_entries (omega arith) l

  -- No row is written.
  pub fits_fewer : (c e : ℕ) → c ≤ max_contexts → e ≤ s.entries → Fits (lent (record { contexts = c; entries = e; parsed = s.parsed }) ss ns)
  fits_fewer c e few less =
      let w = h.limits in
      record {
        limits = record { few_contexts = few; few_entries = omega arith; few_parsed = w.few_parsed; slots_there = w.slots_there; names_there = w.names_there };
        short_entries = all_short e ss (λ i l. short_entry i (omega arith));
        short_parsed = h.short_parsed;
      }

  -- Rows of entries are written, from one of them on or behind the last.
  pub fits_written : {ss' ns' : List (List ℕ)} (c at to : ℕ) → c ≤ max_contexts → at ≤ s.entries → to ≤ max_entries → length ss' ≡ length ss → length ns' ≡ length ns
      → ((i : ℕ) → i < to → (i < at → name_length ss i ≤ max_name) → name_length ss' i ≤ max_name) → drop max_entries ss' ≡ drop max_entries ss
      → Fits (lent (record { contexts = c; entries = to; parsed = s.parsed }) ss' ns')
  fits_written {ss'} {ns'} c at to few low room a b f e =
      let w = h.limits in
      record {
        limits = record { few_contexts = few; few_entries = room; few_parsed = w.few_parsed; slots_there = omega arith; names_there = omega arith };
        short_entries = all_short to ss' (λ i l. f i l (λ m. short_entry i (omega arith)));
        short_parsed = rw e h.short_parsed;
      }

  -- One row is written behind the parsed names.
  pub fits_parsed : {ss' ns' : List (List ℕ)} {es : List Entry} → s.parsed < max_parsed → Appended ss ns ss' ns' (max_entries + s.parsed) (max_entries + s.parsed + 1) es
      → Fits (lent (record { contexts = s.contexts; entries = s.entries; parsed = s.parsed + 1 }) ss' ns')
  fits_parsed {ss'} {ns'} room a =
      let w = h.limits in
      record {
        limits = record { few_contexts = w.few_contexts; few_entries = w.few_entries; few_parsed = omega arith; slots_there = omega (arith, a.as_many_slots); names_there = omega (arith, a.as_many_names) };
        short_entries = all_short s.entries ss' (λ i l. a.short i (omega arith) (λ m. short_entry i l));
        short_parsed = all_short (s.parsed + 1) (drop max_entries ss') (λ i l. rw (get_or-drop max_entries ss' i []) (a.short (max_entries + i) (omega arith) (λ m. one i (omega arith))));
      }
    where
      one : (i : ℕ) → i < s.parsed → name_length ss (max_entries + i) ≤ max_name
      one i l =
          let w = h.limits in
          let n : s.parsed ≤ length (drop max_entries ss) = rw length-drop (omega arith) in
          rw (← get_or-drop max_entries ss i []) (short_at s.parsed (drop max_entries ss) i h.short_parsed n l)

-- An accepted call that wrote: what holds of the rows as it left them holds of those that were lent to it.
pub done_as : (t : Scope) {ss ns ss' ns' : List (List ℕ)} {d : Changed} → changed (scope_of (lent t ss ns)) ≡ d → is_broken (lent t ss ns) ≡ false → ss' ≡ ss → ns' ≡ ns
    → (changed (scope_of (lent t ss' ns')) ≡ d) × Unit {0} × Unit {0} × (is_broken (lent t ss' ns') ≡ false)
done_as t a b p q = rw (p, q) (a, tt, tt, b)
