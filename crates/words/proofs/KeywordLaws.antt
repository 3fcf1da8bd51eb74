-- Row by row: one that does not fit leaves the reading with the rest, one that fits ends it; what must follow adds to the reach. A character that begins no row passes all of them.
use mathlib.Core.Path.{◌≡◌, refl, sym, ap, ◌∙◌}
use mathlib.Core.Bool.{Bool, true, false, cond, ◌&&◌, ◌||◌, not, false≢true}
use mathlib.Core.Logic.{◌⊎◌, inl, inr}
use mathlib.Core.List.{List, [], ◌∷◌, ◌++◌}
use Prim.Native.Nat.{ℕ, zero, suc, ◌+◌, ◌-◌, ◌≤◌, ◌<◌, max}
use native.Mathlib.Numerals.{add-one}
use native.Mathlib.Nat.{not-suc-le-zero, add-zero, zero-add}
use native.Mathlib.Omega.{arith}
use lib.Dec.{eqb, leb}
use borrow.Author.Tests.{leb-true, eqb-true, eq-eqb, ne_eqb, not-true}
use lib.ListN.{length, get_or, take, drop, length-take, length-drop}
use lib.Seq.{drop-cons}
use Rattle.std.specs.Prelude.{Option, None, Some, is_some}
use Rattle.std.specs.Bool.{then_some}
use Rattle.std.specs.List.{list_all, zip}
use Rattle.reading.specs.Look.{cell_at, Look, done, run_from}
use Rattle.reading.specs.Cells.{holds, is_one_of}
use Rattle.reading.proofs.Test.{by_test, both, by_order, all_of}
use Rattle.reading.proofs.Cell.{cell_out}
use Rattle.reading.proofs.Passed.{Passed}
use Rattle.reading.proofs.Going.{Stands, begins, asks, takes, takes_on, finds, goes_on_lem}
use Rattle.text.specs.Limits.{max_chars}
use Rattle.text.specs.Classes.{is_whitespace}
use Rattle.names.specs.Same.{same}
use Rattle.lexer.specs.Flags.{Flags}
use Rattle.lexer.specs.Read.{Value, nothing, truth, number, chars, Outcome, outcome, token}
use Rattle.lexer.specs.Window.{shown, Follow, anything, next, ahead, When, always, if_set, if_clear, Row, taken, leads, words, first_of, after_word}
use Rattle.lexer.specs.Token.{fuel}
use Rattle.lexer.specs.declared.token_type.TokenType.{TokenType}
use Rattle.lexer.specs.declared.token_type.TokenType.TheVariants.{YyEof}
use Rattle.lexer.specs.Shown.{window_of}
use Rattle.words.specs.Keywords.{class_of, follow_of, when_of, row_of, rows_of, Lettered, is_row, are_rows, place_from, links_from, links_of, letter_words, pairs, initials, sign_of, number_in, sign_found, Followed, Matched}
use Rattle.words.specs.declared.keywords.Follower.{Follower}
use Rattle.words.specs.declared.keywords.Follower.TheVariants.{Space, Less, ParenOrLess}
use Rattle.words.specs.declared.keywords.When.TheVariants.{Always}
use Rattle.words.specs.declared.keywords.Word.{Word}
use Rattle.words.specs.declared.keywords.Found.{Found}
use Rattle.words.specs.declared.keywords.Match.{Match}
use Rattle.lexer.proofs.SkipLaws.{sees_blanks}

-- The window has so many cells, and is that of its front and of its rest.
window-length : (k : ℕ) (t : List ℕ) (i : ℕ) → length (window_of k t i) ≡ k
unfolding window_of
window-length zero t i = refl
window-length (suc k) t i = ap suc (window-length k t (suc i))

window_parts : (k m : ℕ) (t : List ℕ) (i : ℕ) → window_of (k + m) t i ≡ window_of k t i ++ window_of m t (i + k)
unfolding window_of
window_parts zero m t i = rw (zero-add m, add-zero i)
window_parts (suc k) m t i =
    let e : suc i + k ≡ i + suc k = omega arith in
    let n : suc k + m ≡ suc (k + m) = omega arith in
    rw n (ap (λ (l : List ℕ). shown (cell_at t i) ∷ l) (rw (← e) (window_parts k m t (suc i))))

-- Letters that are compared with the window one by one.
pub leads_zip : (l w : List ℕ) → length l ≤ length w → list_all (λ (p : ℕ × ℕ). eqb p.0 p.1) (zip l w) ≡ leads l w
leads_zip [] w h = refl
leads_zip (x ∷ l) [] h = absurd (not-suc-le-zero h)
leads_zip (x ∷ l) (y ∷ w) h = ap (λ b. eqb x y && b) (leads_zip l w (omega arith))

-- A word without a space that leads the window lies in the text.
leads_inside : (l t : List ℕ) (k i : ℕ) → is_one_of l 0x20 ≡ false → leads l (window_of k t i) ≡ true → i ≤ length t → i + length l ≤ length t
unfolding window_of
leads_inside [] t k i clean h b = omega arith
leads_inside (x ∷ l) t zero i clean h b = absurd (false≢true h)
leads_inside (x ∷ l) t (suc k) i clean h b =
    let e = both (eqb x (shown (cell_at t i))) _ h in
    let d = neither (eqb x 0x20) (is_one_of l 0x20) clean in
    by_order i (length t)
    (λ g. omega (arith, leads_inside l t k (suc i) d.1 e.1 (omega arith)))
    (λ g. absurd (false≢true (sym d.0 ∙ rw (cell_out t i g) at e.0)))
  where
    neither : (a b : Bool) → a || b ≡ false → (a ≡ false) × (b ≡ false)
    neither true b h = absurd (false≢true (sym h))
    neither false b h = (refl, h)

abbrev pub no_word : Word
no_word = record { letters = 0; follower = Space; when = Always; kind = YyEof; value = None; next = None }

-- What the tables' test says of a word.
lettered : (l : List ℕ) (n : ℕ) → is_row l n ≡ true → Lettered l n
unfolding is_row
lettered l n h =
    let a = both (leb 1 n && leb n 9 && eqb (length l) 9) _ h in
    let b = both (leb 1 n && leb n 9) _ a.0 in
    let c = both (leb 1 n) _ b.0 in
    record { some = leb-true 1 n c.0; most = leb-true n 9 c.1; size = eqb-true (length l) 9 b.1; spaceless = not-true _ a.1 }

rows_even : (ls : List (List ℕ)) (rs : List Word) → are_rows ls rs ≡ true → length ls ≡ length rs
unfolding are_rows
rows_even [] [] h = refl
rows_even [] (r ∷ rs) h = absurd (false≢true h)
rows_even (l ∷ ls) [] h = absurd (false≢true h)
rows_even (l ∷ ls) (r ∷ rs) h = ap suc (rows_even ls rs (both (is_row l r.letters) _ h).1)

row_at : (ls : List (List ℕ)) (rs : List Word) (k : ℕ) → are_rows ls rs ≡ true → k < length ls → Lettered (get_or ls k []) (get_or rs k no_word).letters
unfolding are_rows
row_at [] rs k h l = absurd (not-suc-le-zero l)
row_at (x ∷ ls) [] k h l = absurd (false≢true h)
row_at (x ∷ ls) (r ∷ rs) zero h l = lettered x r.letters (both (is_row x r.letters) _ h).0
row_at (x ∷ ls) (r ∷ rs) (suc k) h l = row_at ls rs k (both (is_row x r.letters) _ h).1 (omega arith)

rows_more : (ls : List (List ℕ)) (rs : List Word) (k : ℕ) → are_rows ls rs ≡ true → k < length ls
    → rows_of (drop k ls) (drop k rs) ≡ row_of (get_or ls k []) (get_or rs k no_word) ∷ rows_of (drop (suc k) ls) (drop (suc k) rs)
unfolding rows_of
rows_more ls rs k h l = rw (drop-cons ls k [] l, drop-cons rs k no_word (omega (arith, rows_even ls rs h)))

-- A row that does not fit is passed over.
passed_over : (r : Row) (rs : List Row) (f : Flags) (w : List ℕ) (i : ℕ) (o : Look Outcome) → taken r.when f && leads r.word w ≡ false → first_of fuel (r ∷ rs) f w i o ≡ first_of fuel rs f w i o
unfolding first_of
passed_over r rs f w i o h = rw h

pub and_off : (a : Bool) {b : Bool} → b ≡ false → a && b ≡ false
and_off true h = h
and_off false h = refl

-- Words that begin otherwise than the window.
other_first : {l : List ℕ} {n x : ℕ} (w : List ℕ) → Lettered l n → (get_or l 0 0 ≡ x → ⊥) → leads (take n l) (x ∷ w) ≡ false
other_first {l} {n} {x} w s h = go l n s.some (omega (arith, s.size)) h
  where
    go : (l : List ℕ) (n : ℕ) → 1 ≤ n → 0 < length l → (get_or l 0 0 ≡ x → ⊥) → leads (take n l) (x ∷ w) ≡ false
    go l zero a b h = absurd (not-suc-le-zero a)
    go [] (suc n) a b h = absurd (not-suc-le-zero b)
    go (y ∷ l) (suc n) a b h = rw (ne_eqb y x h)

-- What stands in a list from a place on; nothing if there is none.
abbrev pub from_place : {A : Type 0} → List A → Option ℕ → List A
from_place ls None = []
from_place ls (Some k) = drop k ls

-- A word at a place, from n on, begins with x.
abbrev pub Begins : List (List ℕ) → ℕ → ℕ → Option ℕ → Type 0
Begins ls x n None = Unit
Begins ls x n (Some k) = (n ≤ k) × (k < length ls) × (get_or (get_or ls k []) 0 0 ≡ x)

-- Of the words from n on, those before the place p do not lead a window that begins with x; none does if there is no such place.
pub record Skipped (ls : List (List ℕ)) (x n : ℕ) (p : Option ℕ) : Type 0 where
  pub begins : Begins ls x n p
  pub same : (rs : List Word) → are_rows ls rs ≡ true → (f : Flags) (w : List ℕ) (i : ℕ) (o : Look Outcome)
      → first_of fuel (rows_of (drop n ls) (drop n rs)) f (x ∷ w) i o ≡ first_of fuel (rows_of (from_place ls p) (from_place rs p)) f (x ∷ w) i o

module _ (ls : List (List ℕ)) (x : ℕ) where
  sooner : (n : ℕ) {m : ℕ} (p : Option ℕ) → n ≤ m → Begins ls x m p → Begins ls x n p
  sooner n None h b = tt
  sooner n (Some k) h b = (omega (arith, b.0), b.1, b.2)

  skipped_from : (d : List (List ℕ)) (n : ℕ) → drop n ls ≡ d → n ≤ length ls → Skipped ls x n (place_from n d x)
  unfolding place_from row_of rows_of
  skipped_from [] n e h = record { begins = tt; same = λ rs a f w i o. rw e }
  skipped_from (l ∷ d) n e h =
      let here : n < length ls = omega (arith, length-drop n ls, ap length e) in
      let cons = sym (drop-cons ls n [] here) ∙ e in
      let first : get_or ls n [] ≡ l = ap (λ m. get_or m 0 []) cons in
      by_test (λ p. Skipped ls x n p) (eqb (get_or l 0 0) x)
      (λ t. record { begins = (omega arith, here, rw first (eqb-true _ _ t)); same = λ rs a f w i o. refl })
      (λ t. let s = skipped_from d (suc n) (ap (drop 1) cons) (omega arith) in record {
        begins = sooner n (place_from (suc n) d x) (omega arith) s.begins;
        same = λ rs a f w i o. ap (λ m. first_of fuel m f (x ∷ w) i o) (rows_more ls rs n a here)
            ∙ passed_over (row_of (get_or ls n []) (get_or rs n no_word)) _ f (x ∷ w) i o (and_off (taken (when_of (get_or rs n no_word).when) f) (other_first w (row_at ls rs n a here) (λ g. false≢true (sym t ∙ eq-eqb _ _ (rw first at g)))))
            ∙ s.same rs a f w i o;
      })

-- The place of the first word that begins with x, and of the next that begins as word k does.
pub skipped_first : (ls : List (List ℕ)) (x : ℕ) → Skipped ls x 0 (place_from 0 ls x)
skipped_first ls x = skipped_from ls x ls 0 refl (omega arith)

link_at : (n m : ℕ) (ls : List (List ℕ)) (rs : List Word) (k : ℕ) → m ≡ n + k → links_of rs ≡ links_from n ls → k < length ls → (get_or rs k no_word).next ≡ place_from (suc m) (drop (suc k) ls) (get_or (get_or ls k []) 0 0)
unfolding links_from
link_at n m [] rs k e h l = absurd (not-suc-le-zero l)
link_at n m (x ∷ ls) [] k e h l = absurd (cc)
link_at n m (x ∷ ls) (r ∷ rs) zero e h l = let d : m ≡ n = omega arith in rw d (cc)
link_at n m (x ∷ ls) (r ∷ rs) (suc k) e h l = link_at (suc n) m ls rs k (omega arith) (cc) (omega arith)

pub skipped_next : (ls : List (List ℕ)) (rs : List Word) (x k : ℕ) → links_of rs ≡ links_from 0 ls → k < length ls → get_or (get_or ls k []) 0 0 ≡ x → Skipped ls x (suc k) (get_or rs k no_word).next
skipped_next ls rs x k h l e = rw (link_at 0 k ls rs k (omega arith) h l, e) (skipped_from ls x (drop (suc k) ls) (suc k) refl (omega arith))

-- What must follow, behind whitespace.
pub ahead_of : {follow : Follower} → (follow ≡ Less) ⊎ (follow ≡ ParenOrLess) → follow_of follow ≡ ahead (class_of follow)
ahead_of (inl e) = rw e
ahead_of (inr e) = rw e

pub followed_ahead : {t w : List ℕ} {n i q j to : ℕ} {follow : Follow} {hit : Bool} (p : ℕ → Bool) → follow ≡ ahead p → q ≤ length t + 12 → length t ≤ max_chars → Passed is_whitespace t (i + n) j → hit ≡ holds p (cell_at t j) → to ≡ max q (j + 1)
    → Followed t q follow w n i hit to
followed_ahead {t} {w} {n} {i} {q} {j} {to} p e near small b d m = let l = b.within in record {
  on = omega arith;
  near = omega arith;
  goes = rw (e, d) (finds (asks (takes (sees_blanks b small) _ (begins t q _) to (omega arith)) to (omega arith)));
}

pub word_inside : (t : List ℕ) (i : ℕ) {w l : List ℕ} {n : ℕ} → Lettered l n → w ≡ window_of 12 t i → i ≤ length t → leads (take n l) w ≡ true → i + n ≤ length t
word_inside t i {w} {l} {n} k win inside e =
    let b = leads_inside (take n l) t 12 i k.spaceless (rw win at e) inside in omega (arith, length-take n l, k.size, k.most)

-- Letters and window, compared one by one.
pub leads_is : (t : List ℕ) (i : ℕ) {w l : List ℕ} {n : ℕ} {b : Bool} → Lettered l n → w ≡ window_of 12 t i → b ≡ list_all (λ (p : ℕ × ℕ). eqb p.0 p.1) (zip (take n l) w) → leads (take n l) w ≡ b
leads_is t i {w} {l} {n} k win e = sym (e ∙ leads_zip (take n l) w (rw win (omega (arith, length-take n l, window-length 12 t i, k.most))))

-- One row, tried: the flag or the letters do not fit, or what must follow was looked for.
module _ (t w l : List ℕ) (r : Word) (f : Flags) (i q : ℕ) (inside : i ≤ length t) (near : q ≤ length t + 12) where
  pub tried_apart : taken (when_of r.when) f && leads (take r.letters l) w ≡ false → Matched (row_of l r ∷ []) t q i w f (record { found = None; reach = q })
  unfolding row_of first_of
  tried_apart h = record { from = omega arith; short = omega arith; within = inside; on = omega arith; near = near; says = λ o. record { same = ap (run_from t q) (passed_over (row_of l r) [] f w i o h) } }

  pub tried_followed : Lettered l r.letters → w ≡ window_of 12 t i → taken (when_of r.when) f ≡ true → leads (take r.letters l) w ≡ true → (hit : Bool) (to : ℕ) → Followed t q (follow_of r.follower) w r.letters i hit to
      → Matched (row_of l r ∷ []) t q i w f (record { found = then_some hit (record { kind = r.kind; value = r.value; end = i + r.letters }); reach = to })
  unfolding row_of first_of
  tried_followed k win p b hit to g = go hit g
    where
      len : length (take r.letters l) ≡ r.letters
      len = omega (arith, length-take r.letters l, k.size, k.most)

      go : (hit : Bool) → Followed t q (follow_of r.follower) w r.letters i hit to
          → Matched (row_of l r ∷ []) t q i w f (record { found = then_some hit (record { kind = r.kind; value = r.value; end = i + r.letters }); reach = to })
      go true g = record {
        from = omega (arith, k.some);
        short = omega (arith, k.most);
        within = word_inside t i k win inside b;
        on = g.on;
        near = g.near;
        says = λ o. finds (rw (p, b, len) (takes_on g.goes _ (begins t q _)));
      }
      go false g = record {
        from = omega arith;
        short = omega arith;
        within = inside;
        on = g.on;
        near = g.near;
        says = λ o. rw (p, b, len) (takes_on g.goes _ (begins t q _));
      }

-- Of two lists of rows, the second is tried where the first gives nothing.
rows-joined : (rs ss : List Row) (f : Flags) (w : List ℕ) (i : ℕ) (o : Look Outcome) → first_of fuel (rs ++ ss) f w i o ≡ first_of fuel rs f w i (first_of fuel ss f w i o)
unfolding first_of
rows-joined [] ss f w i o = refl
rows-joined (r ∷ rs) ss f w i o = rw (rows-joined rs ss f w i o)

-- The words from a place on, of n.
abbrev pub left_at : ℕ → Option ℕ → ℕ
left_at n None = 0
left_at n (Some k) = n - k

left_falls : (ls : List (List ℕ)) (x k : ℕ) (p : Option ℕ) → k < length ls → Begins ls x (suc k) p → left_at (length ls) p < length ls - k
left_falls ls x k None h b = omega arith
left_falls ls x k (Some j) h b = omega (arith, b.0, b.1)

-- The search in the window w, begun with the reach `from`, has come to the place p with the reach q.
pub record Searching (ls : List (List ℕ)) (rs : List Word) (t w : List ℕ) (from i : ℕ) (f : Flags) (p : Option ℕ) (q : ℕ) : Type 0 where
  pub on : from ≤ q
  pub near : q ≤ length t + 12
  pub begins : Begins ls (shown (cell_at t i)) 0 p
  pub stands : (o : Look Outcome) → Stands t from (first_of fuel (rows_of ls rs) f w i o) (first_of fuel (rows_of (from_place ls p) (from_place rs p)) f w i o) q

passing : (ls : List (List ℕ)) (rs : List Word) (t : List ℕ) {w : List ℕ} (f : Flags) (i : ℕ) (o : Look Outcome) {n : ℕ} {p : Option ℕ} → w ≡ window_of 12 t i → are_rows ls rs ≡ true → Skipped ls (shown (cell_at t i)) n p
    → first_of fuel (rows_of (drop n ls) (drop n rs)) f w i o ≡ first_of fuel (rows_of (from_place ls p) (from_place rs p)) f w i o
unfolding window_of
passing ls rs t f i o win rows s = rw win (s.same rs rows f (window_of 11 t (suc i)) i o)

module _ {ls : List (List ℕ)} {rs : List Word} {t w : List ℕ} {from i : ℕ} {f : Flags} where
  pub search_begun : are_rows ls rs ≡ true → w ≡ window_of 12 t i → from ≤ length t + 12 → {p : Option ℕ} → p ≡ place_from 0 ls (shown (cell_at t i)) → Searching ls rs t w from i f p from
  search_begun rows win h e = let s = skipped_first ls (shown (cell_at t i)) in rw e (record {
    on = omega arith;
    near = h;
    begins = s.begins;
    stands = λ o. record { same = ap (run_from t from) (passing ls rs t f i o win rows s) };
  })

  pub search_place : {p : Option ℕ} {q : ℕ} (k : ℕ) → Searching ls rs t w from i f p q → p ≡ Some k → Searching ls rs t w from i f (Some k) q
  search_place k s e = rw e at s

  module _ (k : ℕ) {q : ℕ} (rows : are_rows ls rs ≡ true) (s : Searching ls rs t w from i f (Some k) q) where
    pub search_row : Lettered (get_or ls k []) (get_or rs k no_word).letters × (k < length ls) × (k < length rs)
    search_row = let b = s.begins.1 in (row_at ls rs k rows b, b, omega (arith, rows_even ls rs rows))

    tried : {m : Match} → Matched (row_of (get_or ls k []) (get_or rs k no_word) ∷ []) t q i w f m → (o : Look Outcome) → Stands t from (first_of fuel (rows_of ls rs) f w i o)
        (first_of fuel (row_of (get_or ls k []) (get_or rs k no_word) ∷ []) f w i (first_of fuel (rows_of (drop (suc k) ls) (drop (suc k) rs)) f w i o)) q
    tried a o = record { same = (s.stands o).same ∙ ap (λ m. run_from t q (first_of fuel m f w i o)) (rows_more ls rs k rows s.begins.1) ∙ ap (run_from t q) (rows-joined (row_of (get_or ls k []) (get_or rs k no_word) ∷ []) _ f w i o) }

    pub search_less : links_of rs ≡ links_from 0 ls → {p : Option ℕ} → p ≡ Some k → left_at (length rs) (get_or rs k no_word).next < left_at (length rs) p
    search_less links e =
        let x = skipped_next ls rs (shown (cell_at t i)) k links s.begins.1 s.begins.2 in
        rw (e, ← rows_even ls rs rows) (left_falls ls _ k (get_or rs k no_word).next s.begins.1 x.begins)

    pub search_hit : (d : Option Found) (to : ℕ) → Matched (row_of (get_or ls k []) (get_or rs k no_word) ∷ []) t q i w f (record { found = d; reach = to }) → is_some d ≡ true → Matched (rows_of ls rs) t from i w f (record { found = d; reach = to })
    search_hit None to a e = absurd (false≢true e)
    search_hit (Some d) to a e = record {
      from = a.from;
      short = a.short;
      within = a.within;
      on = omega (arith, s.on, a.on);
      near = a.near;
      says = λ o. goes_on_lem (tried a o) (a.says _);
    }

    pub search_more : (d : Option Found) (to : ℕ) → Matched (row_of (get_or ls k []) (get_or rs k no_word) ∷ []) t q i w f (record { found = d; reach = to }) → is_some d ≡ false → w ≡ window_of 12 t i → links_of rs ≡ links_from 0 ls
        → Searching ls rs t w from i f (get_or rs k no_word).next to
    search_more (Some d) to a e win links = absurd (false≢true (sym e))
    search_more None to a e win links =
        let x = skipped_next ls rs (shown (cell_at t i)) k links s.begins.1 s.begins.2 in
        record {
          on = omega (arith, s.on, a.on);
          near = a.near;
          begins = sooner ls _ 0 (get_or rs k no_word).next (omega arith) x.begins;
          stands = λ o. record { same = (tried a o).same ∙ (a.says _).same ∙ ap (run_from t to) (passing ls rs t f i o win rows x) };
        }

  pub search_end : {p : Option ℕ} {q : ℕ} → Searching ls rs t w from i f p q → p ≡ None → i ≤ length t → Matched (rows_of ls rs) t from i w f (record { found = None; reach = q })
  unfolding first_of rows_of
  search_end s e h = record { from = omega arith; short = omega arith; within = h; on = s.on; near = s.near; says = λ o. rw e at (s.stands o) }

-- A symbol of a list that asks for nothing behind it, has no value, and has n characters, none of which is a space.
abbrev asks_nothing : Follow → Bool
asks_nothing anything = true
asks_nothing (next p) = false
asks_nothing (ahead p) = false

abbrev is_always : When → Bool
is_always always = true
is_always (if_set g) = false
is_always (if_clear g) = false

abbrev has_nothing : Value → Bool
has_nothing nothing = true
has_nothing (truth b) = false
has_nothing (number a b m e) = false
has_nothing (chars l) = false

abbrev is_sign : ℕ → Row → Bool
is_sign n r = asks_nothing r.follow && (is_always r.when && (has_nothing r.value && (eqb (length r.word) n && not (is_one_of r.word 0x20))))

record Signed (n : ℕ) (r : Row) : Type 0 where
  bare : r.follow ≡ anything
  free : r.when ≡ always
  valueless : r.value ≡ nothing
  size : length r.word ≡ n
  spaceless : is_one_of r.word 0x20 ≡ false

signed : (n : ℕ) (r : Row) → is_sign n r ≡ true → Signed n r
signed n r h =
    let a = both (asks_nothing r.follow) _ h in
    let b = both (is_always r.when) _ a.1 in
    let c = both (has_nothing r.value) _ b.1 in
    let d = both (eqb (length r.word) n) _ c.1 in
    record { bare = to_anything r.follow a.0; free = to_always r.when b.0; valueless = to_nothing r.value c.0; size = eqb-true (length r.word) n d.0; spaceless = not-true _ d.1 }
  where
    to_anything : (p : Follow) → asks_nothing p ≡ true → p ≡ anything
    to_anything anything e = refl
    to_anything (next p) e = absurd (false≢true e)
    to_anything (ahead p) e = absurd (false≢true e)

    to_always : (p : When) → is_always p ≡ true → p ≡ always
    to_always always e = refl
    to_always (if_set g) e = absurd (false≢true e)
    to_always (if_clear g) e = absurd (false≢true e)

    to_nothing : (v : Value) → has_nothing v ≡ true → v ≡ nothing
    to_nothing nothing e = refl
    to_nothing (truth b) e = absurd (false≢true e)
    to_nothing (number a b m x) e = absurd (false≢true e)
    to_nothing (chars l) e = absurd (false≢true e)

-- What is read where a symbol of a type ends at e, or else.
abbrev sign_look : Option ℕ → Flags → ℕ → Look Outcome → Look Outcome
sign_look None f e o = o
sign_look (Some k) f e o = done (outcome (token k nothing) e (after_word k f))

leads_same : (x v w : List ℕ) → length x ≡ length v → leads x (v ++ w) ≡ same x v
unfolding same
leads_same [] [] w h = refl
leads_same [] (y ∷ v) w h = absurd (omega arith)
leads_same (y ∷ x) [] w h = absurd (omega arith)
leads_same (y ∷ x) (z ∷ v) w h = ap (λ b. eqb y z && b) (leads_same x v w (omega arith))

same_true : (x y : List ℕ) → same x y ≡ true → x ≡ y
unfolding same
same_true [] [] h = refl
same_true [] (b ∷ y) h = absurd (false≢true h)
same_true (a ∷ x) [] h = absurd (false≢true h)
same_true (a ∷ x) (b ∷ y) h = let d = both (eqb a b) _ h in rw (eqb-true a b d.0, same_true x y d.1)

module _ (v : List ℕ) where
  signs_say : (rs : List Row) → all_of (is_sign (length v)) rs ≡ true → (f : Flags) (w : List ℕ) (i : ℕ) (o : Look Outcome) → first_of fuel rs f (v ++ w) i o ≡ sign_look (sign_of rs v) f (i + length v) o
  unfolding first_of sign_of
  signs_say [] h f w i o = refl
  signs_say (r ∷ rs) h f w i o =
      let b = both (is_sign (length v) r) _ h in
      let s = signed (length v) r b.0 in
      rw (s.free, s.bare, s.valueless, s.size, leads_same r.word v w s.size) (go (same r.word v) (signs_say rs b.1 f w i o))
    where
      go : (b : Bool) {m : Look Outcome} → m ≡ sign_look (sign_of rs v) f (i + length v) o
          → cond b (done (outcome (token r.type nothing) (i + length v) (after_word r.type f))) m ≡ sign_look (cond b (Some r.type) (sign_of rs v)) f (i + length v) o
      go true e = refl
      go false e = e

  sign_spaceless : (rs : List Row) → all_of (is_sign (length v)) rs ≡ true → {k : ℕ} → sign_of rs v ≡ Some k → is_one_of v 0x20 ≡ false
  unfolding sign_of
  sign_spaceless [] h e = absurd (cc)
  sign_spaceless (r ∷ rs) h e = let b = both (is_sign (length v) r) _ h in go (same r.word v) refl (signed (length v) r b.0).spaceless (λ k g. sign_spaceless rs b.1 g) e
    where
      go : (b : Bool) → same r.word v ≡ b → is_one_of r.word 0x20 ≡ false → ((k : ℕ) → sign_of rs v ≡ Some k → is_one_of v 0x20 ≡ false) → {k : ℕ} → cond b (Some r.type) (sign_of rs v) ≡ Some k → is_one_of v 0x20 ≡ false
      go true m c o g = rw (← same_true r.word v m) c
      go false m c o g = o _ g

-- A symbol in the window lies in the text, since none is a space.
shown_inside : (k : ℕ) (t : List ℕ) (i : ℕ) → is_one_of (window_of k t i) 0x20 ≡ false → i ≤ length t → i + k ≤ length t
shown_inside k t i h b = rw (window-length k t i) at (leads_inside (window_of k t i) t k i h (leads_itself (window_of k t i)) b)
  where
    leads_itself : (l : List ℕ) → leads l l ≡ true
    leads_itself [] = refl
    leads_itself (x ∷ l) = rw (eq-eqb x x refl, leads_itself l)

pub two_shown : (t : List ℕ) (i : ℕ) {c d : ℕ} → c ≡ shown (cell_at t i) → d ≡ shown (cell_at t (i + 1)) → c ∷ d ∷ [] ≡ window_of 2 t i
unfolding window_of
two_shown t i p q = rw (p, q, add-one i)

-- A symbol of n characters, by its type, or none.
pub sign_matched : (rs : List Row) (v : List ℕ) (n l : ℕ) → all_of (is_sign n) rs ≡ true → (t : List ℕ) (i q : ℕ) (f : Flags) → v ≡ window_of n t i → n + l ≡ 12 → 1 ≤ n → i ≤ length t → q ≤ length t + 12
    → (k : Option TokenType) → number_in k ≡ sign_of rs v → {d : Option Found} {to : ℕ} → d ≡ sign_found k (i + n) → to ≡ q → Matched rs t q i (window_of 12 t i) f (record { found = d; reach = to })
sign_matched rs v n l test t i q f win size some inside near k s e m = rw (e, m) (go k (sym s))
  where
    whole : window_of 12 t i ≡ v ++ window_of l t (i + n)
    whole = rw (← size, win) (window_parts n l t i)

    len : length v ≡ n
    len = rw win (window-length n t i)

    signs : all_of (is_sign (length v)) rs ≡ true
    signs = rw len test

    gives : (o : Look Outcome) → first_of fuel rs f (window_of 12 t i) i o ≡ sign_look (sign_of rs v) f (i + n) o
    gives o = rw whole (rw len at (signs_say v rs signs f (window_of l t (i + n)) i o))

    go : (k : Option TokenType) → sign_of rs v ≡ number_in k → Matched rs t q i (window_of 12 t i) f (record { found = sign_found k (i + n); reach = q })
    go None h = record { from = omega arith; short = omega arith; within = inside; on = omega arith; near = near; says = λ o. record { same = ap (run_from t q) (rw h at (gives o)) } }
    go (Some k) h = record {
      from = omega arith;
      short = omega arith;
      within = shown_inside n t i (rw win at (sign_spaceless v rs signs h)) inside;
      on = omega arith;
      near = near;
      says = λ o. record { same = ap (run_from t q) (rw h at (gives o)) };
    }

-- Rows that give what others give are matched as those are.
matched_as : {rs ss : List Row} {t : List ℕ} {r i : ℕ} {w : List ℕ} {f : Flags} (d : Option Found) {q : ℕ} → ((o : Look Outcome) → first_of fuel ss f w i o ≡ first_of fuel rs f w i o)
    → Matched rs t r i w f (record { found = d; reach = q }) → Matched ss t r i w f (record { found = d; reach = q })
matched_as {t = t} {r} (Some d) g s = record { from = s.from; short = s.short; within = s.within; on = s.on; near = s.near; says = λ o. record { same = ap (run_from t r) (g o) ∙ (s.says o).same } }
matched_as {t = t} {r} None g s = record { from = s.from; short = s.short; within = s.within; on = s.on; near = s.near; says = λ o. record { same = ap (run_from t r) (g o) ∙ (s.says o).same } }

-- Rows whose words all begin with a character of a class do not fit where none of it stands.
abbrev starts_in : (ℕ → Bool) → List ℕ → Bool
starts_in p [] = false
starts_in p (y ∷ l) = p y

module _ (p : ℕ → Bool) {x : ℕ} (off : p x ≡ false) (f : Flags) (w : List ℕ) (i : ℕ) (o : Look Outcome) where
  not_led : (l : List ℕ) → starts_in p l ≡ true → leads l (x ∷ w) ≡ false
  not_led [] h = absurd (false≢true h)
  not_led (y ∷ l) h = rw (ne_eqb y x (λ e. false≢true (sym off ∙ rw e at h)))

  none_fits : (rs : List Row) → all_of (λ r. starts_in p r.word) rs ≡ true → first_of fuel rs f (x ∷ w) i o ≡ o
  unfolding first_of
  none_fits [] h = refl
  none_fits (r ∷ rs) h =
      let b = both (starts_in p r.word) _ h in
      passed_over r rs f (x ∷ w) i o (and_off (taken r.when f) (not_led r.word b.0)) ∙ none_fits rs b.1

-- The definition's words by the first character: one that begins a word of letters begins no symbol of two characters.
abbrev is_initial : ℕ → Bool
is_initial x = is_some (place_from 0 initials x)

words_parted : (f : Flags) (w : List ℕ) (i : ℕ) (o : Look Outcome) → first_of fuel words f w i o ≡ first_of fuel letter_words f w i (first_of fuel pairs f w i o)
unfolding letter_words pairs
words_parted f w i o = rows-joined letter_words pairs f w i o

module _ (t : List ℕ) (i : ℕ) {r q : ℕ} {f : Flags} {d : Option Found} (b : Bool) (e : b ≡ is_initial (shown (cell_at t i))) where
  pub by_letters : b ≡ true → Matched letter_words t r i (window_of 12 t i) f (record { found = d; reach = q }) → Matched words t r i (window_of 12 t i) f (record { found = d; reach = q })
  unfolding window_of pairs initials place_from
  by_letters h s =
      let z = ap not (sym e ∙ h) in
      matched_as d (λ o. words_parted f (window_of 12 t i) i o ∙ ap (first_of fuel letter_words f (window_of 12 t i) i) (none_fits (λ x. not (is_initial x)) z f (window_of 11 t (suc i)) i o pairs refl)) s

  pub by_pairs : b ≡ false → Matched pairs t r i (window_of 12 t i) f (record { found = d; reach = q }) → Matched words t r i (window_of 12 t i) f (record { found = d; reach = q })
  unfolding window_of letter_words initials place_from
  by_pairs h s = matched_as d (λ o. words_parted f (window_of 12 t i) i o ∙ none_fits is_initial (sym e ∙ h) f (window_of 11 t (suc i)) i _ letter_words refl) s

-- Rows that are equal to the definition's give what the definition gives.
pub same_rows : {rs ss : List Row} {t : List ℕ} {r i : ℕ} {w : List ℕ} {f : Flags} {m : Match} → Matched rs t r i w f m → rs ≡ ss → Matched ss t r i w f m
same_rows k e = rw (← e) k
