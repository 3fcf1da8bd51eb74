-- A call on a scope that is not broken leaves one that is not broken. One law for each way that entries come about: left after replacing, put behind others, below a context.
use mathlib.Core.Path.{◌≡◌, refl, sym, ◌∙◌}
use mathlib.Core.Bool.{Bool, true, false, cond, ◌&&◌, ◌||◌, not, false≢true, true≢false}
use mathlib.Core.List.{List, [], ◌∷◌, ◌++◌}
use Prim.Native.Nat.{ℕ, suc, ◌-◌, ◌<◌, ◌≤◌}
use native.Mathlib.Omega.{arith}
use lib.Dec.{eqb, ltb, leb}
use lib.ListN.{length}
use borrow.Author.Tests.{eq-eqb, ne_eqb, lt-ltb, le-ltb, leb-true, leb-false, ltb-true, ltb-false, eqb-false}
use Rattle.reading.proofs.Test.{by_test, by_order, or_left, or_right}
use Rattle.names.specs.Same.{same, member}
use Rattle.scope.specs.Limits.{max_contexts, max_entries, max_parsed, max_depth}
use Rattle.scope.specs.Entries.{Entry, context_kind, ParsingScope}
use Rattle.scope.specs.Settled.{is_repeated, settled_from, settled}
use Rattle.scope.specs.Broken.{is_broken_name, has_parent, is_broken_entry, any_broken, is_broken_list, any_repeated, is_broken_set, any_misplaced}
use Rattle.scope.specs.Calls.{Changed, changed, refused, under, top, limited, push, pop, added, add_parsed_name}
use Rattle.scope.specs.Lent.{listed, any_outside, push_list}
use Rattle.names.proofs.SameLaws.{same_sym}
use Rattle.lists.proofs.OneContext.{AllIn, listed_in}
use Rattle.scope_calls.proofs.SettlesLaws.{top_in}

-- All are of contexts below n.
abbrev pub AllUnder : ℕ → List Entry → Type 0
AllUnder n [] = Unit {0}
AllUnder n (e ∷ es) = (e.context < n) × AllUnder n es

-- Parents: a walk past one more entry, and past one that is no parent.
past_one : (e f : Entry) (b c : List Entry) → (has_parent e b ≡ true → has_parent e c ≡ true) → has_parent e (f ∷ b) ≡ true → has_parent e (f ∷ c) ≡ true
unfolding has_parent
past_one e f b c g h = go (not (eqb f.context e.context)) (eqb (suc f.depth) e.depth) (ltb f.depth e.depth) h
  where
    go : (p q r : Bool) → cond p false (cond q (eqb f.kind context_kind) (cond r false (has_parent e b))) ≡ true → cond p false (cond q (eqb f.kind context_kind) (cond r false (has_parent e c))) ≡ true
    go true q r k = k
    go false true r k = k
    go false false true k = k
    go false false false k = g k

past-deeper : (e f : Entry) (b : List Entry) → e.depth ≤ f.depth → has_parent e (f ∷ b) ≡ true → has_parent e b ≡ true
unfolding has_parent
past-deeper e f b l h =
    go (not (eqb f.context e.context)) (rw (ne_eqb (suc f.depth) e.depth (λ q. absurd (omega arith)), le-ltb f.depth e.depth l) at h)
  where
    go : (p : Bool) → cond p false (has_parent e b) ≡ true → has_parent e b ≡ true
    go true k = absurd (false≢true k)
    go false k = k

same_parent : (e f : Entry) (b c : List Entry) → f.depth < e.depth → has_parent e (f ∷ b) ≡ true → has_parent e (f ∷ c) ≡ true
unfolding has_parent
same_parent e f b c l h = rw (lt-ltb f.depth e.depth l) (rw (lt-ltb f.depth e.depth l) at h)

no_parent : (n : ℕ) (e : Entry) (b : List Entry) → e.context ≡ n → AllUnder n b → has_parent e b ≡ false
unfolding has_parent
no_parent n e [] q u = refl
no_parent n e (f ∷ b) q u = let l = u.0 in rw (ne_eqb f.context e.context (λ z. absurd (omega arith)))

-- An entry is unbroken behind c as it is behind b.
entry_kept : (e : Entry) (b c : List Entry) → (has_parent e b ≡ true → has_parent e c ≡ true) → is_broken_entry e b ≡ false → is_broken_entry e c ≡ false
unfolding is_broken_entry
entry_kept e b c f h = go (ltb max_depth e.depth) (ltb context_kind e.kind) (ltb 0 e.depth) (has_parent e b) (has_parent e c) (is_broken_name e.name) f h
  where
    go : (a k d x y n : Bool) → (x ≡ true → y ≡ true) → a || k || (d && not x) || n ≡ false → a || k || (d && not y) || n ≡ false
    go true k d x y n g z = z
    go false true d x y n g z = z
    go false false false x y n g z = z
    go false false true true y n g z = rw (g refl) z
    go false false true false y n g z = absurd (true≢false z)

-- So are all of context n, if c has the parents that b has for them.
carried : (n : ℕ) (es b c : List Entry) → ((e : Entry) → e.context ≡ n → has_parent e b ≡ true → has_parent e c ≡ true) → AllIn n es → any_broken b es ≡ false → any_broken c es ≡ false
unfolding any_broken
carried n [] b c g k h = refl
carried n (e ∷ es) b c g k h =
    rw (entry_kept e b c (g e k.0) (or_left (is_broken_entry e b) (any_broken (e ∷ b) es) h))
    (carried n es (e ∷ b) (e ∷ c) (λ f q. past_one f e b c (g f q)) k.1 (or_right (is_broken_entry e b) (any_broken (e ∷ b) es) h))

-- Left after replacing. What was kept has every parent of a depth below the cut.
settled_unbroken : (cut : ℕ) (es b c : List Entry) → ((e : Entry) → e.depth < cut → has_parent e b ≡ true → has_parent e c ≡ true) → any_broken b es ≡ false → any_broken c (settled_from cut es) ≡ false
unfolding any_broken settled_from
settled_unbroken cut [] b c g h = refl
settled_unbroken cut (x ∷ es) b c g h =
    let l = or_left (is_broken_entry x b) (any_broken (x ∷ b) es) h in
    let r = or_right (is_broken_entry x b) (any_broken (x ∷ b) es) h in
    by_test (λ z. any_broken c z ≡ false) (leb cut x.depth)
    (λ q. let m = leb-true cut x.depth q in settled_unbroken cut es (x ∷ b) c (λ e j k. g e j (past-deeper e x b (omega arith) k)) r)
    (λ q. let m = leb-false cut x.depth q in
    by_test (λ z. any_broken c z ≡ false) (is_repeated x es)
    (λ t. settled_unbroken (suc x.depth) es (x ∷ b) c (λ e j k. g e (omega arith) (past-deeper e x b (omega arith) k)) r)
    (λ t. rw (entry_kept x b c (g x m) l) (settled_unbroken (suc max_depth) es (x ∷ b) (x ∷ c)
    (λ e j k. by_order x.depth e.depth (λ i. same_parent e x b c i k) (λ i. past_one e x b c (g e (omega arith)) k)) r)))

settled_in : (n cut : ℕ) (es : List Entry) → AllIn n es → AllIn n (settled_from cut es)
unfolding settled_from
settled_in n cut [] k = tt
settled_in n cut (x ∷ es) k =
    by_test (AllIn n) (leb cut x.depth) (λ q. settled_in n cut es k.1)
    (λ q. by_test (AllIn n) (is_repeated x es) (λ t. settled_in n (suc x.depth) es k.1) (λ t. (k.0, settled_in n (suc max_depth) es k.1)))

-- The level of an entry ends at one that is less deep.
level-ends : (e f : Entry) (fs : List Entry) → f.depth < e.depth → is_repeated e (f ∷ fs) ≡ false
unfolding is_repeated
level-ends e f fs l = rw (lt-ltb f.depth e.depth l) (go (not (eqb f.context e.context)))
  where
    go : (a : Bool) → cond (a || true) false ((eqb f.depth e.depth && same f.name e.name) || is_repeated e fs) ≡ false
    go true = refl
    go false = refl

-- Behind a cut the first entry that is kept is less deep.
not_behind_cut : (e : Entry) (cut : ℕ) (es : List Entry) → cut ≤ e.depth → is_repeated e (settled_from cut es) ≡ false
unfolding settled_from is_repeated
not_behind_cut e cut [] l = refl
not_behind_cut e cut (x ∷ es) l =
    by_test (λ z. is_repeated e z ≡ false) (leb cut x.depth) (λ q. not_behind_cut e cut es l)
    (λ q. let m = leb-false cut x.depth q in
    by_test (λ z. is_repeated e z ≡ false) (is_repeated x es) (λ t. not_behind_cut e (suc x.depth) es (omega arith)) (λ t. level-ends e x (settled_from (suc max_depth) es) (omega arith)))

not_again : (n : ℕ) (e : Entry) (cut : ℕ) (es : List Entry) → e.context ≡ n → AllIn n es → is_repeated e es ≡ false → is_repeated e (settled_from cut es) ≡ false
unfolding settled_from is_repeated
not_again n e cut [] p k h = refl
not_again n e cut (x ∷ es) p k h = by_order x.depth e.depth
    (λ l. by_test (λ z. is_repeated e z ≡ false) (leb cut x.depth) (λ q. let m = leb-true cut x.depth q in not_behind_cut e cut es (omega arith))
    (λ q. by_test (λ z. is_repeated e z ≡ false) (is_repeated x es) (λ t. not_behind_cut e (suc x.depth) es l) (λ t. level-ends e x (settled_from (suc max_depth) es) l)))
    (λ l. let s = rw (eq-eqb x.context e.context (k.0 ∙ sym p), le-ltb x.depth e.depth l) at h in
    let a = or_left (eqb x.depth e.depth && same x.name e.name) (is_repeated e es) s in
    let b = or_right (eqb x.depth e.depth && same x.name e.name) (is_repeated e es) s in
    by_test (λ z. is_repeated e z ≡ false) (leb cut x.depth) (λ q. not_again n e cut es p k.1 b)
    (λ q. by_test (λ z. is_repeated e z ≡ false) (is_repeated x es) (λ t. not_again n e (suc x.depth) es p k.1 b)
    (λ t. rw (eq-eqb x.context e.context (k.0 ∙ sym p), le-ltb x.depth e.depth l, a) (not_again n e (suc max_depth) es p k.1 b))))

settled_distinct : (n cut : ℕ) (es : List Entry) → AllIn n es → any_repeated (settled_from cut es) ≡ false
unfolding settled_from any_repeated
settled_distinct n cut [] k = refl
settled_distinct n cut (x ∷ es) k =
    by_test (λ z. any_repeated z ≡ false) (leb cut x.depth) (λ q. settled_distinct n cut es k.1)
    (λ q. by_test (λ z. any_repeated z ≡ false) (is_repeated x es) (λ t. settled_distinct n (suc x.depth) es k.1)
    (λ t. rw (not_again n x (suc max_depth) es k.0 k.1 t) (settled_distinct n (suc max_depth) es k.1)))

-- Entries of context n put behind others.
all_in_joined : (n : ℕ) (xs ys : List Entry) → AllIn n xs → AllIn n ys → AllIn n (xs ++ ys)
all_in_joined n [] ys h k = k
all_in_joined n (x ∷ xs) ys h k = (h.0, all_in_joined n xs ys h.1 k)

joined_unbroken : (n : ℕ) (b xs ys : List Entry) → AllIn n ys → any_broken b xs ≡ false → is_broken_list ys ≡ false → any_broken b (xs ++ ys) ≡ false
unfolding any_broken has_parent
joined_unbroken n b [] ys k h l = carried n ys [] b (λ e q m. absurd (false≢true m)) k l
joined_unbroken n b (x ∷ xs) ys k h l = rw (or_left (is_broken_entry x b) (any_broken (x ∷ b) xs) h) (joined_unbroken n (x ∷ b) xs ys k (or_right (is_broken_entry x b) (any_broken (x ∷ b) xs) h) l)

-- A search for a repeat that goes on differently.
other_rest : (e f : Entry) (b c : List Entry) → (is_repeated e b ≡ false → is_repeated e c ≡ false) → is_repeated e (f ∷ b) ≡ false → is_repeated e (f ∷ c) ≡ false
unfolding is_repeated
other_rest e f b c g h = go (not (eqb f.context e.context) || ltb f.depth e.depth) (eqb f.depth e.depth && same f.name e.name) h
  where
    go : (p s : Bool) → cond p false (s || is_repeated e b) ≡ false → cond p false (s || is_repeated e c) ≡ false
    go true s k = k
    go false true k = k
    go false false k = g k

joined_again : (n : ℕ) (e : Entry) (xs ys : List Entry) → e.context < n → AllIn n ys → is_repeated e xs ≡ false → is_repeated e (xs ++ ys) ≡ false
unfolding is_repeated
joined_again n e [] [] l k h = refl
joined_again n e [] (y ∷ ys) l k h = let m = k.0 in rw (ne_eqb y.context e.context (λ z. absurd (omega arith)))
joined_again n e (x ∷ xs) ys l k h = other_rest e x xs (xs ++ ys) (joined_again n e xs ys l k) h

joined_distinct : (n : ℕ) (xs ys : List Entry) → AllUnder n xs → AllIn n ys → any_repeated xs ≡ false → any_repeated ys ≡ false → any_repeated (xs ++ ys) ≡ false
unfolding any_repeated
joined_distinct n [] ys u k h l = l
joined_distinct n (x ∷ xs) ys u k h l = rw (joined_again n x xs ys u.0 k (or_left (is_repeated x xs) (any_repeated xs) h)) (joined_distinct n xs ys u.1 k (or_right (is_repeated x xs) (any_repeated xs) h) l)

-- Contexts between two numbers.
placed_at : (n count low : ℕ) (ys : List Entry) → AllIn n ys → low ≤ n → n ≤ count → any_misplaced count low ys ≡ false
unfolding any_misplaced
placed_at n count low [] k a b = refl
placed_at n count low (y ∷ ys) k a b = rw (k.0, le-ltb n low a, le-ltb count n b) (placed_at n count n ys k.1 (omega arith) b)

record Between (count low : ℕ) (e : Entry) (es : List Entry) : Type 0 where
  above : low ≤ e.context
  below : e.context ≤ count
  rest : any_misplaced count e.context es ≡ false

between : (count low : ℕ) (e : Entry) (es : List Entry) → any_misplaced count low (e ∷ es) ≡ false → Between count low e es
unfolding any_misplaced
between count low e es h =
    let k = or_left (ltb e.context low || ltb count e.context) (any_misplaced count e.context es) h in
    record {
      above = ltb-false e.context low (or_left (ltb e.context low) (ltb count e.context) k);
      below = ltb-false count e.context (or_right (ltb e.context low) (ltb count e.context) k);
      rest = or_right (ltb e.context low || ltb count e.context) (any_misplaced count e.context es) h;
    }

joined-placed : (n count m low : ℕ) (xs ys : List Entry) → AllUnder n xs → AllIn n ys → m ≤ count → n ≤ count → low ≤ n → any_misplaced m low xs ≡ false → any_misplaced count low (xs ++ ys) ≡ false
unfolding any_misplaced
joined-placed n count m low [] ys u k a b c h = placed_at n count low ys k c b
joined-placed n count m low (x ∷ xs) ys u k a b c h =
    let w = between m low x xs h in
    let l = u.0 in
    rw (le-ltb x.context low w.above, le-ltb count x.context (omega (arith, w.below))) (joined-placed n count m x.context xs ys u.1 k a b (omega arith) w.rest)

all_under : (n low : ℕ) (es : List Entry) → any_misplaced n low es ≡ false → AllUnder (suc n) es
all_under n low [] h = tt
all_under n low (e ∷ es) h = let w = between n low e es h in (omega (arith, w.below), all_under n e.context es w.rest)

-- Below the last context, and the last context itself.
under_in : (n : ℕ) (es : List Entry) → AllUnder n (under n es)
unfolding under
under_in n [] = tt
under_in n (e ∷ es) = by_test (AllUnder n) (ltb e.context n) (λ q. (ltb-true e.context n q, under_in n es)) (λ q. tt)

under_unbroken : (n : ℕ) (b es : List Entry) → any_broken b es ≡ false → any_broken b (under n es) ≡ false
unfolding under any_broken
under_unbroken n b [] h = refl
under_unbroken n b (e ∷ es) h =
    by_test (λ z. any_broken b z ≡ false) (ltb e.context n)
    (λ q. rw (or_left (is_broken_entry e b) (any_broken (e ∷ b) es) h) (under_unbroken n (e ∷ b) es (or_right (is_broken_entry e b) (any_broken (e ∷ b) es) h)))
    (λ q. refl)

under_again : (n : ℕ) (e : Entry) (es : List Entry) → is_repeated e es ≡ false → is_repeated e (under n es) ≡ false
unfolding under is_repeated
under_again n e [] h = refl
under_again n e (f ∷ es) h = by_test (λ z. is_repeated e z ≡ false) (ltb f.context n) (λ q. other_rest e f es (under n es) (under_again n e es) h) (λ q. refl)

under_distinct : (n : ℕ) (es : List Entry) → any_repeated es ≡ false → any_repeated (under n es) ≡ false
unfolding under any_repeated
under_distinct n [] h = refl
under_distinct n (e ∷ es) h =
    by_test (λ z. any_repeated z ≡ false) (ltb e.context n)
    (λ q. rw (under_again n e es (or_left (is_repeated e es) (any_repeated es) h)) (under_distinct n es (or_right (is_repeated e es) (any_repeated es) h)))
    (λ q. refl)

under-placed : (n low : ℕ) (es : List Entry) → any_misplaced n low es ≡ false → any_misplaced (n - 1) low (under n es) ≡ false
unfolding under any_misplaced
under-placed n low [] h = refl
under-placed n low (e ∷ es) h =
    let w = between n low e es h in
    by_test (λ z. any_misplaced (n - 1) low z ≡ false) (ltb e.context n)
    (λ q. let l = ltb-true e.context n q in rw (le-ltb e.context low w.above, le-ltb (n - 1) e.context (omega arith)) (under-placed n e.context es w.rest))
    (λ q. refl)

top_unbroken : (n low : ℕ) (b es : List Entry) → AllUnder n b → any_misplaced n low es ≡ false → any_broken b es ≡ false → is_broken_list (top n es) ≡ false
unfolding top any_broken
top_unbroken n low b [] u m h = refl
top_unbroken n low b (e ∷ es) u m h =
    let w = between n low e es m in
    by_test (λ z. is_broken_list z ≡ false) (ltb e.context n)
    (λ q. top_unbroken n e.context (e ∷ b) es (ltb-true e.context n q, u) w.rest (or_right (is_broken_entry e b) (any_broken (e ∷ b) es) h))
    (λ q. carried n (e ∷ es) b [] (λ f p k. absurd (false≢true (sym (no_parent n f b p u) ∙ k))) (rw q at (top_in n low (e ∷ es) m)) h)

-- The set of parsed names with one that is none of them.
joined-member : (x n : List ℕ) (ns : List (List ℕ)) → member x ns ≡ false → same n x ≡ false → member x (ns ++ (n ∷ [])) ≡ false
unfolding member
joined-member x n [] h k = rw k
joined-member x n (a ∷ ns) h k = rw (or_left (same a x) (member x ns) h) (joined-member x n ns (or_right (same a x) (member x ns) h) k)

joined-set : (n : List ℕ) (ns : List (List ℕ)) → is_broken_name n ≡ false → member n ns ≡ false → is_broken_set ns ≡ false → is_broken_set (ns ++ (n ∷ [])) ≡ false
unfolding is_broken_set member
joined-set n [] k m h = rw k
joined-set n (a ∷ ns) k m h =
    let l = or_left (is_broken_name a || member a ns) (is_broken_set ns) h in
    let r = or_right (is_broken_name a || member a ns) (is_broken_set ns) h in
    rw (
      or_left (is_broken_name a) (member a ns) l,
      joined-member a n ns (or_right (is_broken_name a) (member a ns) l) (same_sym n a ∙ or_left (same a n) (member n ns) m),
    )
    (joined-set n ns k (or_right (same a n) (member n ns) m) r)

-- A scope that is not broken, and what a call leaves; a refusal leaves nothing.
pub record Unbroken (s : ParsingScope) : Type 0 where
  pub placed : any_misplaced s.contexts 1 s.entries ≡ false
  pub unbroken : is_broken_list s.entries ≡ false
  pub distinct : any_repeated s.entries ≡ false
  pub unbroken_set : is_broken_set s.parsed ≡ false

abbrev pub Leaves : Changed → Type 0
Leaves (changed s) = Unbroken s
Leaves (refused n) = Unit {0}

limited_leaves : (s : ParsingScope) (n : ℕ) (es : List Entry) → Unbroken (record { contexts = n; entries = es; parsed = s.parsed }) → Leaves (limited s n es)
limited_leaves s n es u = by_test Leaves (ltb max_contexts n) (λ q. tt) (λ q. by_test Leaves (ltb max_entries (length es)) (λ t. tt) (λ t. u))

module _ (s : ParsingScope) (u : Unbroken s) where
  pub push_leaves : (es : List Entry) → AllIn (suc s.contexts) es → Leaves (push es s)
  unfolding push has_parent
  push_leaves es k =
      let n = suc s.contexts in
      let new = settled_in n (suc max_depth) es k in
      let below = all_under s.contexts 1 s.entries u.placed in
      by_test Leaves (is_broken_list es) (λ q. tt)
      (λ q. limited_leaves s n (s.entries ++ settled es) (record {
        placed = joined-placed n n s.contexts 1 s.entries (settled es) below new (omega arith) (omega arith) (omega arith) u.placed;
        unbroken = joined_unbroken n [] s.entries (settled es) new u.unbroken (settled_unbroken (suc max_depth) es [] [] (λ e l m. m) q);
        distinct = joined_distinct n s.entries (settled es) below new u.distinct (settled_distinct n (suc max_depth) es k);
        unbroken_set = u.unbroken_set;
      }))

  pub pop_leaves : Leaves (pop s)
  unfolding pop
  pop_leaves =
      by_test Leaves (eqb s.contexts 0) (λ q. u)
      (λ q. record {
        placed = under-placed s.contexts 1 s.entries u.placed;
        unbroken = under_unbroken s.contexts [] s.entries u.unbroken;
        distinct = under_distinct s.contexts s.entries u.distinct;
        unbroken_set = u.unbroken_set;
      })

  pub added_leaves : (es : List Entry) → AllIn s.contexts es → is_broken_list es ≡ false → Leaves (added es s)
  added_leaves es k h =
      let n = s.contexts in
      let own = all_in_joined n (top n s.entries) es (top_in n 1 s.entries u.placed) k in
      let new = settled_in n (suc max_depth) (top n s.entries ++ es) own in
      let below = under_in n s.entries in
      let whole = joined_unbroken n [] (top n s.entries) es k (top_unbroken n 1 [] s.entries tt u.placed u.unbroken) h in
      by_test Leaves (eqb n 0) (λ q. u)
      (λ q. let z = eqb-false n 0 q in
      limited_leaves s n (under n s.entries ++ settled (top n s.entries ++ es)) (record {
        placed = joined-placed n n (n - 1) 1 (under n s.entries) (settled (top n s.entries ++ es)) below new (omega arith) (omega arith) (omega arith) (under-placed n 1 s.entries u.placed);
        unbroken = joined_unbroken n [] (under n s.entries) (settled (top n s.entries ++ es)) new (under_unbroken n [] s.entries u.unbroken) (settled_unbroken (suc max_depth) (top n s.entries ++ es) [] [] (λ e l m. m) whole);
        distinct = joined_distinct n (under n s.entries) (settled (top n s.entries ++ es)) below new (under_distinct n s.entries u.distinct) (settled_distinct n (suc max_depth) (top n s.entries ++ es) own);
        unbroken_set = u.unbroken_set;
      }))

  pub parsed_leaves : (n : List ℕ) → Leaves (add_parsed_name n s)
  unfolding add_parsed_name
  parsed_leaves n =
      by_test Leaves (is_broken_name n) (λ q. tt)
      (λ q. by_test Leaves (member n s.parsed) (λ t. u)
      (λ t. by_test Leaves (ltb max_parsed (suc (length s.parsed))) (λ v. tt)
      (λ v. record { placed = u.placed; unbroken = u.unbroken; distinct = u.distinct; unbroken_set = joined-set n s.parsed q t u.unbroken_set })))

  -- As lists are lent.
  pub push_list_leaves : (cs : List ℕ) (rs : List (List ℕ)) → Leaves (push_list cs rs s)
  push_list_leaves cs rs = by_test Leaves (any_outside cs rs) (λ q. tt) (λ q. push_leaves (listed (suc s.contexts) cs rs) (listed_in (suc s.contexts) cs rs))
