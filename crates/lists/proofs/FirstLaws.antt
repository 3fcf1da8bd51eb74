-- Names counted where they are first seen are as many as are left after replacing.
-- Carried by the entries that wait: seen, not cut off, and standing again behind. An entry adds itself if it stands again, and takes out the one that waited for it.
use mathlib.Core.Path.{◌≡◌, refl, sym, ◌∙◌, ap}
use mathlib.Core.Bool.{Bool, true, false, cond, ◌&&◌, ◌||◌, not, false≢true}
use mathlib.Core.List.{List, [], ◌∷◌, ◌++◌}
use Prim.Native.Nat.{ℕ, suc, ◌+◌, ◌-◌, ◌<◌, ◌≤◌}
use native.Mathlib.Omega.{arith}
use lib.Dec.{eqb, ltb}
use lib.ListN.{length, get_or, drop}
use borrow.Author.Tests.{eq-eqb, ne_eqb, eqb-true, le-leb, lt-leb, lt-ltb, le-ltb, ltb-false}
use Rattle.reading.proofs.Test.{by_order, both}
use Rattle.names.specs.Same.{same}
use Rattle.names.proofs.SameLaws.{eqb_sym, same_sym}
use Rattle.scope.specs.Limits.{max_depth}
use Rattle.scope.specs.Entries.{Entry}
use Rattle.scope.specs.Settled.{is_repeated, settled_from, settled}
use Rattle.scope.specs.Lent.{listed}
use Rattle.scope.specs.Rows.{earlier}
use Rattle.scope.specs.Listing.{keep}
use Rattle.scope.proofs.SearchLaws.{Step}
use Rattle.scope.specs.Viewed.{no_entry}
use Rattle.scope.proofs.BrokenLaws.{entries_end, entry_step, earlier_more, earlier_one}
use Rattle.lists.specs.Firsts.{fresh, is_above, cut_behind, firsts}
use Rattle.lists.proofs.OneContext.{AllIn, listed_in}

same_equal : (x y : List ℕ) → same x y ≡ true → x ≡ y
unfolding same
same_equal [] [] h = refl
same_equal [] (b ∷ y) h = absurd (false≢true h)
same_equal (a ∷ x) [] h = absurd (false≢true h)
same_equal (a ∷ x) (b ∷ y) h = let p = both (eqb a b) (same x y) h in rw (eqb-true a b p.0, same_equal x y p.1)

same_self : (x : List ℕ) → same x x ≡ true
unfolding same
same_self [] = refl
same_self (a ∷ x) = rw (eq-eqb a a refl, same_self x)

abbrev one : Bool → ℕ
one b = cond b 1 0

-- One depth and one name.
abbrev alike : Entry → Entry → Bool
alike f e = eqb f.depth e.depth && same f.name e.name

alike_sym : (f e : Entry) → alike f e ≡ alike e f
alike_sym f e = rw (eqb_sym f.depth e.depth, same_sym f.name e.name)

alike-first : (f e g : Entry) → alike f e ≡ true → alike f g ≡ alike e g
alike-first f e g h = let p = both (eqb f.depth e.depth) (same f.name e.name) h in rw (eqb-true f.depth e.depth p.0, same_equal f.name e.name p.1)

alike_second : (f e g : Entry) → alike e g ≡ true → alike f g ≡ alike f e
alike_second f e g h = let p = both (eqb e.depth g.depth) (same e.name g.name) h in rw (eqb-true e.depth g.depth p.0, same_equal e.name g.name p.1)

-- What an entry in front does to the search for another of its context.
module _ (g e : Entry) (es : List Entry) (own : e.context ≡ g.context) where
  stop_lower : e.depth < g.depth → is_repeated g (e ∷ es) ≡ false
  unfolding is_repeated
  stop_lower l = rw (eq-eqb e.context g.context own, lt-ltb e.depth g.depth l)

  here_or_on : g.depth ≤ e.depth → is_repeated g (e ∷ es) ≡ alike e g || is_repeated g es
  unfolding is_repeated
  here_or_on l = rw (eq-eqb e.context g.context own, le-ltb e.depth g.depth l)

  on_deeper : g.depth < e.depth → is_repeated g (e ∷ es) ≡ is_repeated g es
  on_deeper l = here_or_on (omega arith) ∙ rw (ne_eqb e.depth g.depth (λ q. absurd (omega arith)))

search_alike : (g e : Entry) (es : List Entry) → e.context ≡ g.context → alike e g ≡ true → is_repeated g es ≡ is_repeated e es
unfolding is_repeated
search_alike g e [] c h = refl
search_alike g e (f ∷ fs) c h =
    let p = both (eqb e.depth g.depth) (same e.name g.name) h in
    let q = search_alike g e fs c h in
    let d = eqb-true e.depth g.depth p.0 in
    let n = same_equal e.name g.name p.1 in
    cc

-- How many of w are alike to g; those of w that are not alike to e.
abbrev times : Entry → List Entry → ℕ
times g [] = 0
times g (f ∷ fs) = one (alike f g) + times g fs

abbrev others : Entry → List Entry → List Entry
others e [] = []
others e (f ∷ fs) = cond (alike f e) (others e fs) (f ∷ others e fs)

abbrev All : (Entry → Type 0) → List Entry → Type 0
All P [] = Unit {0}
All P (f ∷ fs) = P f × All P fs

all_map : {P Q : Entry → Type 0} (w : List Entry) → ((f : Entry) → P f → Q f) → All P w → All Q w
all_map [] q h = tt
all_map (f ∷ fs) q h = (q f h.0, all_map fs q h.1)

module _ (e : Entry) where
  all_others : {P Q : Entry → Type 0} (w : List Entry) → ((f : Entry) → P f → alike f e ≡ false → Q f) → All P w → All Q (others e w)
  all_others [] q h = tt
  all_others {P} {Q} (f ∷ fs) q h = go (alike f e) refl (all_others fs q h.1)
    where
      go : (b : Bool) → alike f e ≡ b → All Q (others e fs) → All Q (cond b (others e fs) (f ∷ others e fs))
      go true s r = r
      go false s r = (q f h.0 s, r)

  length-others : (w : List Entry) → length w ≡ times e w + length (others e w)
  length-others [] = refl
  length-others (f ∷ fs) = go (alike f e) (length-others fs)
    where
      go : (b : Bool) → length fs ≡ times e fs + length (others e fs) → suc (length fs) ≡ one b + times e fs + length (cond b (others e fs) (f ∷ others e fs))
      go true h = omega arith
      go false h = omega arith

  module _ (g : Entry) where
    times-alike : (w : List Entry) → alike e g ≡ true → times g (others e w) ≡ 0
    times-alike [] h = refl
    times-alike (f ∷ fs) h = go (alike f e) refl (times-alike fs h)
      where
        go : (b : Bool) → alike f e ≡ b → times g (others e fs) ≡ 0 → times g (cond b (others e fs) (f ∷ others e fs)) ≡ 0
        go true s r = r
        go false s r = rw (alike_second f e g h ∙ s, r)

    times_other : (w : List Entry) → alike e g ≡ false → times g (others e w) ≡ times g w
    times_other [] h = refl
    times_other (f ∷ fs) h = go (alike f e) refl (times_other fs h)
      where
        go : (b : Bool) → alike f e ≡ b → times g (others e fs) ≡ times g fs → times g (cond b (others e fs) (f ∷ others e fs)) ≡ one (alike f g) + times g fs
        go true s r = rw (r, alike-first f e g s ∙ h) (omega arith)
        go false s r = ap (λ z. one (alike f g) + z) r

    times-kept : (b : Bool) (w : List Entry) → times g (keep b e ++ w) ≡ cond b (one (alike e g)) 0 + times g w
    unfolding keep
    times-kept true w = refl
    times-kept false w = omega arith

  length-kept : (b : Bool) (w : List Entry) → length (keep b e ++ w) ≡ one b + length w
  unfolding keep
  length-kept true w = omega arith
  length-kept false w = omega arith

  all-kept : (P : Entry → Type 0) (b : Bool) (w : List Entry) → (b ≡ true → P e) → All P w → All P (keep b e ++ w)
  unfolding keep
  all-kept P true w p h = (p refl, h)
  all-kept P false w p h = h

times_none : (g : Entry) (w : List Entry) → All (λ f. f.depth < g.depth) w → times g w ≡ 0
times_none g [] h = refl
times_none g (f ∷ fs) h = let l = h.0 in rw (ne_eqb f.depth g.depth (λ q. absurd (omega arith)), times_none g fs h.1)

module _ (k : ℕ) where
  record Waiting (cut : ℕ) (es : List Entry) (f : Entry) : Type 0 where
    own : f.context ≡ k
    shallow : f.depth < cut
    again : is_repeated f es ≡ true

  -- The entries w wait between those before and es: one for each name that was seen and stands again.
  record Waits (cut : ℕ) (before es w : List Entry) : Type 0 where
    all : All (Waiting cut es) w
    each : (g : Entry) → g.context ≡ k → g.depth < cut → times g w ≡ one (is_repeated g before && is_repeated g es)

  module _ {cut : ℕ} {before es w : List Entry} (e : Entry) (own : e.context ≡ k) (s : Waits cut before (e ∷ es) w) where
    waits_cut : cut ≤ e.depth → Waits cut (e ∷ before) es w
    waits_cut h = record {
      all = all_map w (λ f p. let l = p.shallow in record { own = p.own; shallow = l; again = sym (on_deeper f e es (own ∙ sym p.own) (omega arith)) ∙ p.again }) s.all;
      each = λ g c l. rw (on_deeper g e before (own ∙ sym c) (omega arith), ← on_deeper g e es (own ∙ sym c) (omega arith)) (s.each g c l);
    }

    -- What waits is no deeper than the next entry.
    no_deeper : (f : Entry) → Waiting cut (e ∷ es) f → f.depth ≤ e.depth
    no_deeper f p = by_order e.depth f.depth (λ l. absurd (false≢true (sym (stop_lower f e es (own ∙ sym p.own) l) ∙ p.again))) (λ l. l)

    abbrev left : List Entry
    left = keep (is_repeated e es) e ++ others e w

    module _ (h : e.depth < cut) {c : ℕ} (j : e.depth < c) where
      left-all : All (Waiting c es) left
      left-all = all-kept e (Waiting c es) (is_repeated e es) (others e w) (λ q. record { own = own; shallow = j; again = q })
          (all_others e w (λ f p n. let l = no_deeper f p in record { own = p.own; shallow = omega arith; again = sym (here_or_on f e es (own ∙ sym p.own) l ∙ rw (alike_sym e f ∙ n)) ∙ p.again }) s.all)

      left_each : (g : Entry) → g.context ≡ k → g.depth < c → times g left ≡ one (is_repeated g (e ∷ before) && is_repeated g es)
      left_each g o l = by_order e.depth g.depth (λ d. rw (stop_lower g e before (own ∙ sym o) d) (times_none g left (all-kept e (λ f. f.depth < g.depth) (is_repeated e es) (others e w) (λ q. d) (all_others e w (λ f p n. let m = no_deeper f p in omega arith) s.all))))
          (λ d. go d (alike e g) refl)
        where
          go : g.depth ≤ e.depth → (b : Bool) → alike e g ≡ b → times g left ≡ one (is_repeated g (e ∷ before) && is_repeated g es)
          go d true q = times-kept e g (is_repeated e es) (others e w) ∙ rw (here_or_on g e before (own ∙ sym o) d, q, times-alike e g w q, search_alike g e es (own ∙ sym o) q) (alone (is_repeated e es))
            where
              alone : (b : Bool) → cond b 1 0 + 0 ≡ one b
              alone true = refl
              alone false = refl
          go d false q =
              let x : cond (is_repeated e es) (one (alike e g)) 0 + times g (others e w) ≡ times g w = rw (q, times_other e g w q, none (is_repeated e es)) (omega arith) in
              let y : one (is_repeated g before && is_repeated g (e ∷ es)) ≡ one (is_repeated g (e ∷ before) && is_repeated g es) = rw (here_or_on g e es (own ∙ sym o) d, here_or_on g e before (own ∙ sym o) d, q) in
              times-kept e g (is_repeated e es) (others e w) ∙ x ∙ s.each g o (omega arith) ∙ y
            where
              none : (b : Bool) → cond {A = ℕ} b 0 0 ≡ 0
              none true = refl
              none false = refl

      waits_step : Waits c (e ∷ before) es left
      waits_step = record { all = left-all; each = left_each }

      -- One more is seen, or one less waits.
      seen_once : times e w ≡ one (is_repeated e before)
      seen_once = s.each e own h ∙ rw (here_or_on e e es refl (omega arith), alike_self) (both_true (is_repeated e before))
        where
          alike_self : alike e e ≡ true
          alike_self = rw (eq-eqb e.depth e.depth refl, same_self e.name)

          both_true : (b : Bool) → one (b && true) ≡ one b
          both_true true = refl
          both_true false = refl

-- An entry that is not cut off, by the cut that only asks where something stands below.
flat_cut : (e : Entry) (es : List Entry) → e.depth < suc max_depth → is_above e es ≡ false → settled_from (suc e.depth) es ≡ settled_from (suc max_depth) es
unfolding settled_from is_above
flat_cut e [] h q = refl
flat_cut e (f ∷ fs) h q = let l = ltb-false e.depth f.depth q in rw (lt-leb (suc e.depth) f.depth (omega arith), lt-leb (suc max_depth) f.depth (omega arith))

count-one : (cut : ℕ) (e : Entry) (es : List Entry) → e.depth < cut → cut ≤ suc max_depth → length (settled_from cut (e ∷ es)) ≡ cond (is_repeated e es) 0 1 + length (settled_from (cut_behind cut e es) es)
unfolding settled_from cut_behind
count-one cut e es h j = rw (lt-leb cut e.depth h) (go (is_repeated e es) (is_above e es) refl)
  where
    go : (r b : Bool) → is_above e es ≡ b → length (cond r (settled_from (suc e.depth) es) (e ∷ settled_from (suc max_depth) es)) ≡ cond r 0 1 + length (settled_from (cond (b && r) (suc e.depth) (suc max_depth)) es)
    go true true q = omega arith
    go true false q = omega (arith, ap length (flat_cut e es (omega arith) q))
    go false true q = omega arith
    go false false q = omega arith

behind_cut : (cut : ℕ) (e : Entry) (es : List Entry) → e.depth < cut → cut ≤ suc max_depth → (e.depth < cut_behind cut e es) × (cut_behind cut e es ≤ suc max_depth)
unfolding cut_behind
behind_cut cut e es h j = rw (lt-leb cut e.depth h) (go (is_above e es && is_repeated e es))
  where
    go : (b : Bool) → (e.depth < cond b (suc e.depth) (suc max_depth)) × (cond b (suc e.depth) (suc max_depth) ≤ suc max_depth)
    go true = (omega arith, omega arith)
    go false = (omega arith, omega arith)

-- One entry.
fresh_cut : (cut : ℕ) (e : Entry) (before : List Entry) → cut ≤ e.depth → 0 ≡ fresh cut e before
unfolding fresh
fresh_cut cut e before h = rw (le-leb cut e.depth h)

behind_inside : (cut : ℕ) (e : Entry) (es : List Entry) → cut ≤ e.depth → cut ≡ cut_behind cut e es
unfolding cut_behind
behind_inside cut e es h = rw (le-leb cut e.depth h)

-- What an entry adds, by what its name did before and does behind.
sum : (x y : Bool) (more o : ℕ) {new w left rest whole seen : ℕ} → new ≡ cond x 0 1 → seen ≡ one x → w ≡ seen + o → left ≡ one y + o → more + left ≡ rest → whole ≡ cond y 0 1 + rest → new + more + w ≡ whole
sum true true more o a b c d e f = omega arith
sum true false more o a b c d e f = omega arith
sum false true more o a b c d e f = omega arith
sum false false more o a b c d e f = omega arith

fresh-is : (cut : ℕ) (e : Entry) (before : List Entry) → e.depth < cut → fresh cut e before ≡ cond (is_repeated e before) 0 1
unfolding fresh
fresh-is cut e before h = rw (lt-leb cut e.depth h)

firsts-one : (cut : ℕ) (e : Entry) (before es : List Entry) → firsts cut before (e ∷ es) ≡ fresh cut e before + firsts (cut_behind cut e es) (e ∷ before) es
unfolding firsts
firsts-one cut e before es = refl

firsts_cut : (cut : ℕ) (e : Entry) (before es : List Entry) → cut ≤ e.depth → firsts cut before (e ∷ es) ≡ firsts cut (e ∷ before) es
firsts_cut cut e before es h = firsts-one cut e before es ∙ rw (← fresh_cut cut e before h, ← behind_inside cut e es h) (omega arith)

settled_cut : (cut : ℕ) (e : Entry) (es : List Entry) → cut ≤ e.depth → settled_from cut (e ∷ es) ≡ settled_from cut es
unfolding settled_from
settled_cut cut e es h = rw (le-leb cut e.depth h)

module _ (k : ℕ) where
  none_left : (cut : ℕ) (before w : List Entry) → Waits k cut before [] w → firsts cut before [] + length w ≡ length (settled_from cut [])
  unfolding firsts settled_from is_repeated
  none_left cut before [] s = refl
  none_left cut before (f ∷ w) s = absurd (false≢true s.all.0.again)

  firsts_from : (cut : ℕ) (before es w : List Entry) → AllIn k es → cut ≤ suc max_depth → Waits k cut before es w → firsts cut before es + length w ≡ length (settled_from cut es)
  firsts_from cut before [] w a j s = none_left cut before w s
  firsts_from cut before (e ∷ es) w a j s = by_order e.depth cut
      (λ h. let b = behind_cut cut e es h j in
      ap (λ z. z + length w) (firsts-one cut e before es)
      ∙ sum (is_repeated e before) (is_repeated e es) (firsts (cut_behind cut e es) (e ∷ before) es) (length (others e w)) (fresh-is cut e before h) (seen_once k e a.0 s h b.0) (length-others e w) (length-kept e (is_repeated e es) (others e w))
      (firsts_from (cut_behind cut e es) (e ∷ before) es (left k e a.0 s) a.1 b.1 (waits_step k e a.0 s h b.0)) (count-one cut e es h j))
      (λ h. ap (λ z. z + length w) (firsts_cut cut e before es h) ∙ firsts_from cut (e ∷ before) es w a.1 j (waits_cut k e a.0 s h) ∙ ap length (sym (settled_cut cut e es h)))

  none_yet : (es : List Entry) → Waits k (suc max_depth) [] es []
  unfolding is_repeated
  none_yet es = record { all = tt; each = λ g c l. refl }

  firsts-settled : (es : List Entry) → AllIn k es → firsts (suc max_depth) [] es ≡ length (settled es)
  firsts-settled es a = omega (arith, firsts_from (suc max_depth) [] es [] a (omega arith) (none_yet es))

-- The search among the earlier entries, at the one before j.
module _ (es : List Entry) (j : ℕ) (e : Entry) where
  pub seen_none : j ≡ 0 → is_repeated e (earlier j es []) ≡ false
  unfolding is_repeated earlier
  seen_none z = rw z

  module _ {f : Entry} (at : f ≡ get_or es (j - 1) no_entry) (z : 0 < j) (h : j ≤ length es) {b : Bool} (q : b ≡ (not (eqb f.context e.context) || ltb f.depth e.depth)) where
    pub seen_ends : b ≡ true → is_repeated e (earlier j es []) ≡ false
    unfolding is_repeated
    seen_ends t = rw (earlier_one es j at z h, sym q ∙ t)

    pub seen_step : b ≡ false → Step (is_repeated e (earlier j es [])) (eqb f.depth e.depth && same f.name e.name) (is_repeated e (earlier (j - 1) es []))
    unfolding is_repeated
    seen_step t = record { parts = rw (earlier_one es j at z h, sym q ∙ t) }

-- The count, by index.
module _ (es : List Entry) (cut i : ℕ) where
  pub firsts_end : length es ≤ i → firsts cut (earlier i es []) (drop i es) ≡ 0
  unfolding firsts
  firsts_end h = rw (entries_end es i h)

  pub firsts_step : i < length es → {m c : ℕ} → m ≡ fresh cut (get_or es i no_entry) (earlier i es []) → c ≡ cut_behind cut (get_or es i no_entry) (drop (i + 1) es)
      → firsts cut (earlier i es []) (drop i es) ≡ m + firsts c (earlier (i + 1) es []) (drop (i + 1) es)
  unfolding firsts
  firsts_step h p q = rw (p, q, earlier_more es i refl h, entry_step es i refl h)

pub firsts_all : (k : ℕ) (cs : List ℕ) (rs : List (List ℕ)) → firsts (suc max_depth) (earlier 0 (listed k cs rs) []) (listed k cs rs) ≡ length (settled (listed k cs rs))
unfolding earlier
firsts_all k cs rs = firsts-settled k (listed k cs rs) (listed_in k cs rs)
