-- Rows written one behind the other.
use mathlib.Core.Path.{◌≡◌, refl, sym, ◌∙◌, ap}
use mathlib.Core.List.{List, [], ◌∷◌, ◌++◌, append-nil, append_assoc}
use Prim.Native.Nat.{ℕ, zero, suc, ◌+◌, ◌-◌, ◌<◌, ◌≤◌}
use native.Mathlib.Omega.{arith}
use native.Mathlib.Numerals.{add-one}
use lib.ListN.{length, get_or, drop, take, set, length-set, length-append}
use lib.Seq.{take-append_seam, drop-set-lt, drop-drop, get_or-set_same, get_or-set_other}
use Rattle.reading.proofs.Test.{by_order}
use Rattle.reading.specs.Slices.{front}
use Rattle.scope.specs.Limits.{max_name}
use Rattle.scope.specs.Entries.{Entry}
use Rattle.scope.specs.Lent.{entry_of, held}
use Rattle.scope.specs.Rows.{name_length}
use Rattle.scope_calls.specs.Written.{Appended}

pub held_snoc : (k : ℕ) (ss ns : List (List ℕ)) (s n : List ℕ) → k < length ss → k < length ns → held (suc k) (set ss k s) (set ns k n) ≡ held k ss ns ++ (entry_of s n ∷ [])
unfolding held
held_snoc zero [] ns s n h j = absurd (omega arith)
held_snoc zero (a ∷ ss) [] s n h j = absurd (omega arith)
held_snoc zero (a ∷ ss) (b ∷ ns) s n h j = refl
held_snoc (suc k) [] ns s n h j = absurd (omega arith)
held_snoc (suc k) (a ∷ ss) [] s n h j = absurd (omega arith)
held_snoc (suc k) (a ∷ ss) (b ∷ ns) s n h j = ap (λ z. entry_of a b ∷ z) (held_snoc k ss ns s n (omega arith) (omega arith))

pub take-held : (m k : ℕ) (ss ns : List (List ℕ)) → m ≤ k → take m (held k ss ns) ≡ held m ss ns
unfolding held
take-held zero k ss ns h = refl
take-held (suc m) zero ss ns h = absurd (omega arith)
take-held (suc m) (suc k) [] ns h = refl
take-held (suc m) (suc k) (s ∷ ss) [] h = refl
take-held (suc m) (suc k) (s ∷ ss) (n ∷ ns) h = ap (λ z. entry_of s n ∷ z) (take-held m k ss ns (omega arith))

pub drop-held : (m k n : ℕ) (ss ns : List (List ℕ)) → n ≡ m + k → m ≤ length ss → m ≤ length ns → drop m (held n ss ns) ≡ held k (drop m ss) (drop m ns)
unfolding held
drop-held zero k n ss ns e h j = let z : n ≡ k = omega arith in ap (λ y. held y ss ns) z
drop-held (suc m) k n [] ns e h j = absurd (omega arith)
drop-held (suc m) k n (s ∷ ss) [] e h j = absurd (omega arith)
drop-held (suc m) k zero (s ∷ ss) (t ∷ ns) e h j = absurd (omega arith)
drop-held (suc m) k (suc n) (s ∷ ss) (t ∷ ns) e h j = drop-held m k n ss ns (omega arith) (omega arith) (omega arith)

-- A row with a short name length written at `at`.
pub set_short : (ss : List (List ℕ)) (at : ℕ) (r : List ℕ) → at < length ss → get_or r 3 0 ≤ max_name → (i : ℕ) → i < at + 1 → (i < at → name_length ss i ≤ max_name) → name_length (set ss at r) i ≤ max_name
set_short ss at r h s i l f = by_order i at (λ k. rw (get_or-set_other ss at i r [] (λ q. absurd (omega arith))) (f k)) (λ k. let z : i ≡ at = omega arith in rw (z, get_or-set_same ss at r [] h) s)

abbrev one : ℕ → ℕ → ℕ → List ℕ → Entry
one c d k n = record { context = c; depth = d; kind = k; name = n }

pub appended_one : (ss ns : List (List ℕ)) (at c d k : ℕ) (x : List ℕ) {y : List ℕ} → at < length ss → at < length ns → length x ≤ max_name → y ≡ front x (get_or ns at [])
    → Appended ss ns (set ss at (c ∷ d ∷ k ∷ length x ∷ [])) (set ns at y) at (at + 1) (one c d k x ∷ [])
appended_one ss ns at c d k x {y} h j l e = record {
  as_many_slots = length-set ss at _;
  as_many_names = length-set ns at _;
  place = refl;
  reads = rw add-one (held_snoc at ss ns (c ∷ d ∷ k ∷ length x ∷ []) y h j ∙ ap (λ z. held at ss ns ++ (one c d k z ∷ [])) (rw e (take-append_seam x _)));
  short = set_short ss at (c ∷ d ∷ k ∷ length x ∷ []) h l;
  slots_behind = drop-set-lt (at + 1) ss at _ (omega arith);
  names_behind = drop-set-lt (at + 1) ns at _ (omega arith);
}

pub appended_none : (ss ns : List (List ℕ)) (at : ℕ) → Appended ss ns ss ns at at []
appended_none ss ns at = record { as_many_slots = refl; as_many_names = refl; place = omega arith; reads = sym (append-nil (held at ss ns)); short = λ i h f. f h; slots_behind = refl; names_behind = refl }

pub behind : {b c : ℕ} (l m : List (List ℕ)) → b ≤ c → drop b l ≡ drop b m → drop c l ≡ drop c m
behind {b} {c} l m h e = let z : b + (c - b) ≡ c = omega arith in rw (← z, ← drop-drop (c - b) b l, ← drop-drop (c - b) b m, e)

pub appended_more : {ss ns ss' ns' ss'' ns'' : List (List ℕ)} {a b c : ℕ} {es fs : List Entry} → Appended ss ns ss' ns' a b es → Appended ss' ns' ss'' ns'' b c fs → Appended ss ns ss'' ns'' a c (es ++ fs)
appended_more {ss} {ns} {ss'} {ns'} {ss''} {ns''} {a} {b} {c} {es} {fs} p q =
    let h : b ≤ c = omega arith in
    record {
      as_many_slots = q.as_many_slots ∙ p.as_many_slots;
      as_many_names = q.as_many_names ∙ p.as_many_names;
      place = rw length-append (omega arith);
      reads = q.reads ∙ rw p.reads (append_assoc (held a ss ns) es fs);
      short = λ i l f. q.short i l (λ m. p.short i m f);
      slots_behind = q.slots_behind ∙ behind ss' ss h p.slots_behind;
      names_behind = q.names_behind ∙ behind ns' ns h p.names_behind;
    }
