-- The most that a name at each depth adds, kept in a row of numbers; and that no name of the scope is longer than all of them together.
use mathlib.Core.Path.{◌≡◌, refl, ◌∙◌}
use mathlib.Core.List.{List, [], ◌∷◌, map}
use Prim.Native.Nat.{ℕ, zero, suc, ◌+◌, ◌*◌, ◌<◌, ◌≤◌, max}
use native.Mathlib.Omega.{arith}
use native.Mathlib.Numerals.{add-one}
use Rattle.std.proofs.Common.{zero-add}
use lib.ListN.{length, get_or, set, replicate, length-set, length-take, length-map, get_or-map}
use lib.Seq.{get_or-set_same, get_or-set_other}
use borrow.Author.Tests.{eq-eqb, ne_eqb}
use Rattle.std.specs.List.{sum, All}
use Rattle.std.proofs.lemmas.List.Sums.{sum_by-cons}
use Rattle.reading.proofs.Test.{by_order}
use Rattle.scope.specs.Limits.{max_name, max_depth}
use Rattle.scope.specs.Entries.{Entry, ParsingScope}
use Rattle.scope.specs.Keys.{is_name, longest_key}
use Rattle.scope.specs.Capped.{Capped}
use Rattle.scope.specs.Viewed.{no_entry}
use Rattle.scope.specs.declared.rows.Rows.{Rows}
use Rattle.scope.specs.Sound.{rows_entries}
use Rattle.scope.proofs.HeldLaws.{short_at, all_length, all_at}
use Rattle.search.specs.Longest.{most, total, Covers, width, widest, longest_parsed, cap_of}
use Rattle.search.proofs.LongestLaws.{Fits, Short, capped}

-- A row has no longer name than it has cells.
pub short_held : (r : Rows) (i : ℕ) → i < length (rows_entries r) → length (get_or (rows_entries r) i no_entry).name ≤ max_name
short_held r i h =
    let l : i < length r.slots.now = omega (arith, all_length r.slots.now r.names.now r.paired) in
    rw (all_at r.slots.now r.names.now r.paired i l) (omega (arith, length-take (get_or (get_or r.slots.now i []) 3 0) (get_or r.names.now i []), short_at (length r.slots.now) r.slots.now i r.short (omega arith) l))

-- The largest of so many numbers, one by one; none of them is larger.
module _ (f : ℕ → ℕ) where
  pub most_none : 0 ≡ most f 0
  unfolding most
  most_none = refl

  pub most_more : (i : ℕ) {m r : ℕ} → m ≡ most f i → r ≡ max m (f i) → r ≡ most f (i + 1)
  unfolding most
  most_more i h e = rw (add-one, e, h) refl

  pub most_all : {i k m : ℕ} → i ≡ k → m ≡ most f i → m ≡ most f k
  most_all e h = rw e at h

  pub most_at : (k i : ℕ) → i < k → f i ≤ most f k
  unfolding most
  most_at zero i h = absurd (omega arith)
  most_at (suc k) i h = by_order i k
      (λ l. let m = most_at k i l in omega arith)
      (λ l. let e : i ≡ k = omega arith in rw e (omega arith))

-- One entry.
module _ (es : List Entry) (d i : ℕ) where
  width_other : ((get_or es i no_entry).depth ≡ d → ⊥) → width es d i ≡ 0
  unfolding width
  width_other h = rw (ne_eqb _ _ h)

  width_here : (get_or es i no_entry).depth ≡ d → width es d i ≡ length (get_or es i no_entry).name + 3
  unfolding width
  width_here h = rw (eq-eqb _ _ h)

-- A number of a row, after one of them was set.
set_at : (ws : List ℕ) (d v k : ℕ) (P : ℕ → Type 0) → d < length ws → (d ≡ k → P v) → ((d ≡ k → ⊥) → P (get_or ws k 0)) → P (get_or (set ws d v) k 0)
set_at ws d v k P l here other = by_order k d
    (λ m. rw (get_or-set_other ws d k v 0 (λ e. absurd (omega arith))) (other (λ e. absurd (omega arith))))
    (λ m. by_order d k
    (λ n. rw (get_or-set_other ws d k v 0 (λ e. absurd (omega arith))) (other (λ e. absurd (omega arith))))
    (λ n. let e : k ≡ d = omega arith in rw (e, get_or-set_same ws d v 0 l) (here (omega arith))))

-- The numbers, once the names of the first i entries were seen.
pub record Seen (es : List Entry) (i : ℕ) (ws : List ℕ) : Type 0 where
  pub size : length ws ≡ suc max_depth
  pub small : (d : ℕ) → get_or ws d 0 ≤ max_name + 3
  pub covers : (j : ℕ) → j < i → length (get_or es j no_entry).name + 3 ≤ get_or ws (get_or es j no_entry).depth 0

pub seen_more : (es : List Entry) (i : ℕ) (ws : List ℕ) (v : ℕ) {e : Entry} → Seen es i ws → e ≡ get_or es i no_entry → e.depth ≤ max_depth → get_or ws e.depth 0 ≤ v → length e.name + 3 ≤ v → v ≤ max_name + 3
    → Seen es (i + 1) (set ws e.depth v)
seen_more es i ws v {e} s at h l m n = record {
  size = length-set ws e.depth v ∙ s.size;
  small = λ k. set_at ws e.depth v k (λ x. x ≤ max_name + 3) inside (λ q. n) (λ q. s.small k);
  covers = λ j g. by_order j i (λ u. kept j (s.covers j u)) (λ u. let q : j ≡ i = omega arith in rw (q, ← at, get_or-set_same ws e.depth v 0 inside) m);
}
  where
    inside : e.depth < length ws
    inside = omega (arith, s.size)

    kept : (j : ℕ) → length (get_or es j no_entry).name + 3 ≤ get_or ws (get_or es j no_entry).depth 0 → length (get_or es j no_entry).name + 3 ≤ get_or (set ws e.depth v) (get_or es j no_entry).depth 0
    kept j c = set_at ws e.depth v (get_or es j no_entry).depth (λ x. length (get_or es j no_entry).name + 3 ≤ x) inside (λ q. omega (arith, rw (← q) at c)) (λ q. c)

-- The same where each number is the most that a name seen adds at its depth.
pub record Widths (es : List Entry) (i : ℕ) (ws : List ℕ) : Type 0 where
  pub size : length ws ≡ suc max_depth
  pub small : (d : ℕ) → get_or ws d 0 ≤ max_name + 3
  pub value : (d : ℕ) → d ≤ max_depth → get_or ws d 0 ≡ most (width es d) i

pub widths_more : (es : List Entry) (i : ℕ) (ws : List ℕ) (v : ℕ) {e : Entry} → Widths es i ws → e ≡ get_or es i no_entry → e.depth ≤ max_depth → v ≡ max (get_or ws e.depth 0) (length e.name + 3) → v ≤ max_name + 3
    → Widths es (i + 1) (set ws e.depth v)
widths_more es i ws v {e} s at h m n = record {
  size = length-set ws e.depth v ∙ s.size;
  small = λ k. set_at ws e.depth v k (λ x. x ≤ max_name + 3) inside (λ q. n) (λ q. s.small k);
  value = λ k l. set_at ws e.depth v k (λ x. x ≡ most (width es k) (i + 1)) inside
      (λ q. most_more (width es k) i (s.value k l) (rw q at m ∙ rw (width_here es k i (rw (← at) q), ← at) refl))
      (λ q. most_more (width es k) i (s.value k l) (rw (width_other es k i (rw (← at) q)) (omega arith)));
}
  where
    inside : e.depth < length ws
    inside = omega (arith, s.size)

zeros : (n d : ℕ) → get_or {A = ℕ} (replicate n 0) d 0 ≡ 0
zeros zero d = refl
zeros (suc n) zero = refl
zeros (suc n) (suc d) = zeros n d

pub seen_none : (es : List Entry) → Seen es 0 (replicate 8 0)
seen_none es = record { size = refl; small = λ d. omega (arith, zeros 8 d); covers = λ j l. absurd (omega arith) }

pub widths_none : (es : List Entry) → Widths es 0 (replicate 8 0)
widths_none es = record { size = refl; small = λ d. omega (arith, zeros 8 d); value = λ d l. zeros 8 d ∙ most_none (width es d) }

sum_small : (b : ℕ) (ws : List ℕ) → ((d : ℕ) → get_or ws d 0 ≤ b) → sum ws ≤ b * length ws
sum_small b [] h = omega arith
sum_small b (w ∷ ws) h = rw (sum_by-cons (λ x. x) w ws) (omega (arith, h 0, sum_small b ws (λ d. h (suc d))))

pub seen_all : (es : List Entry) (i : ℕ) (ws : List ℕ) → Seen es i ws → length es ≤ i → Covers ws es × (sum ws ≤ longest_key + 3)
seen_all es i ws s h = (λ j l. s.covers j (omega arith), omega (arith, s.size, sum_small (max_name + 3) ws s.small))

module _ (es : List Entry) {i : ℕ} {ws : List ℕ} (s : Widths es i ws) where
  pub widths_value : i ≡ length es → (d : ℕ) → d ≤ max_depth → get_or ws d 0 ≡ widest es d
  widths_value e d l = most_all (width es d) e (s.value d l)

  pub widths_within : sum ws ≤ longest_key + 3
  widths_within = omega (arith, s.size, sum_small (max_name + 3) ws s.small)

-- The names of entries, by their places.
pub length-name : (es : List Entry) (i : ℕ) → length (get_or es i no_entry).name ≡ length (get_or (map (λ e. e.name) es) i [])
length-name es i = rw (get_or-map (λ (e : Entry). e.name) es i no_entry) refl

pub length-names : (es : List Entry) → length (map (λ e. e.name) es) ≡ length es
length-names es = length-map es (λ e. e.name)

-- The names of entries that are none longer.
pub names_short : (es : List Entry) (n : ℕ) → ((i : ℕ) → i < length es → length (get_or es i no_entry).name ≤ n) → All (λ x. length x ≤ n) (map (λ e. e.name) es)
names_short [] n h i d l = absurd (omega arith)
names_short (e ∷ es) n h zero d l = h 0 (omega arith)
names_short (e ∷ es) n h (suc i) d l = names_short es n (λ j g. h (suc j) (omega arith)) i d (omega arith)

-- The sum of the row.
total_sum : (f : ℕ → ℕ) (ws : List ℕ) (d : ℕ) → ((k : ℕ) → k < length ws → get_or ws k 0 ≡ f (d + k)) → sum ws ≡ total f (length ws) d
unfolding total
total_sum f [] d h = refl
total_sum f (w ∷ ws) d h =
    let q : d + 0 ≡ d = omega arith in
    let first : w ≡ f d = rw q at (h 0 (omega arith)) in
    rw (sum_by-cons (λ x. x) w ws, first, total_sum f ws (d + 1) (λ k l. let z : d + 1 + k ≡ d + suc k = omega arith in rw z (h (suc k) (omega arith)))) refl

pub row_sum : (es : List Entry) (ws : List ℕ) → length ws ≡ suc max_depth → ((d : ℕ) → d ≤ max_depth → get_or ws d 0 ≡ widest es d) → sum ws ≡ total (widest es) (suc max_depth) 0
row_sum es ws l h = rw (← l) (total_sum (widest es) ws 0 (λ k g. rw zero-add (h k (omega arith))))

-- No name is longer than the cap.
fits : (w : ℕ → ℕ) (es : List Entry) → ((i : ℕ) → i < length es → length (get_or es i no_entry).name + 3 ≤ w (get_or es i no_entry).depth) → Fits w es
fits w [] h = tt
fits w (e ∷ es) h = (h 0 (omega arith), fits w es (λ i l. h (suc i) (omega arith)))

short : (n : ℕ) (ns : List (List ℕ)) → ((i : ℕ) → i < length ns → length (get_or ns i []) ≤ n) → Short n ns
short n [] h = tt
short n (x ∷ ns) h = (h 0 (omega arith), short n ns (λ i l. h (suc i) (omega arith)))

pub row_capped : (s : ParsingScope) (ws : List ℕ) (p b : ℕ) → length ws ≡ suc max_depth → Covers ws s.entries → All (λ n. length n ≤ p) s.parsed → sum ws ≤ b + 3 → p ≤ b → Capped (is_name s) b
row_capped s ws p b l c h k m =
    let e = total_sum (λ d. get_or ws d 0) ws 0 (λ d g. rw zero-add) in
    capped (λ d. get_or ws d 0) p b s (fits (λ d. get_or ws d 0) s.entries c) (short p s.parsed (λ i g. h i [] g)) (rw (← l) (omega (arith, e))) m

pub cap_capped : (s : ParsingScope) → Capped (is_name s) (cap_of s)
cap_capped s = capped (widest s.entries) (longest_parsed s.parsed) (cap_of s) s
    (fits (widest s.entries) s.entries wide)
    (short (longest_parsed s.parsed) s.parsed (most_at (λ i. length (get_or s.parsed i [])) (length s.parsed)))
    (omega arith)
    (omega arith)
  where
    wide : (i : ℕ) → i < length s.entries → length (get_or s.entries i no_entry).name + 3 ≤ widest s.entries (get_or s.entries i no_entry).depth
    wide i g = rw (← width_here s.entries (get_or s.entries i no_entry).depth i refl) (most_at (width s.entries (get_or s.entries i no_entry).depth) (length s.entries) i g)
