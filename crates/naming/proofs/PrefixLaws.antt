-- A prefix is spelled at scratch's front, flattened there and wiped away, so that the search from the longest one down sees scratch unchanged.
use Rattle.std.specs.Prelude.{Result, Ok, Err}
use mathlib.Core.Path.{◌≡◌, refl, sym, ap, ◌∙◌, subst}
use mathlib.Core.Bool.{Bool, true, false, cond, ◌&&◌, false≢true}
use mathlib.Core.List.{List, [], ◌∷◌, ◌++◌, map}
use Prim.Native.Nat.{ℕ, zero, suc, ◌-◌, ◌*◌, ◌≤◌, ◌<◌}
use native.Mathlib.Omega.{arith}
use lib.Dec.{leb}
use borrow.Author.Tests.{leb-true}
use lib.ListN.{length, take, drop, replicate, length-append}
use lib.Seq.{take-append_seam}
use Rattle.reading.specs.Span.{part}
use Rattle.reading.specs.Slices.{zeros, Wrote}
use Rattle.reading.proofs.Test.{both, either, all_of}
use Rattle.reading.proofs.Front.{drop-front}
use Rattle.reading.proofs.Passed.{part_length}
use Rattle.names.specs.Same.{same, member}
use Rattle.names.specs.Trim.{trim}
use Rattle.names.specs.Flatten.{flat, flatten}
use Rattle.names.specs.Spelling.{Left, laid, tied, spelled}
use Rattle.names.specs.Name.{is_symbol_text}
use Rattle.names.specs.Fixed.{property_names, range_properties, date_properties, time_properties}
use Rattle.names.proofs.Shorter.{trim-length}
use Rattle.names.proofs.SameLaws.{equal_length}
use Rattle.names.proofs.NameLaws.{spelled_by_space}
use Rattle.scope.specs.Capped.{Capped}
use Rattle.lexer.specs.Flags.{Flags}
use Rattle.lexer.specs.Naming.{texts, fits, is_property, is_found}
use Rattle.lexer.specs.Places.{next_of, leads, end_of, Placed, prefix, spelling}
use Rattle.lexer.specs.Fit.{fit, Clear, Asked, Longest}
use Rattle.lexer.proofs.WalkLaws.{next_placed}

pub length-zeros : (n : ℕ) → length (zeros n) ≡ n
length-zeros zero = refl
length-zeros (suc n) = ap suc (length-zeros n)

-- A slice that was filled with 0.
pub filled : {m n : ℕ} {o : List ℕ} → o ≡ replicate m 0 → m ≡ n → o ≡ zeros n
filled {m} {n} e h = rw h at e ∙ go n
  where
    go : (n : ℕ) → replicate n 0 ≡ zeros n
    go zero = refl
    go (suc n) = ap (0 ∷◌) (go n)

-- A clear slice whose front was used and cleared is as it was.
zeros-drop : (k n : ℕ) → k ≤ n → zeros k ++ drop k (zeros n) ≡ zeros n
zeros-drop zero n h = refl
zeros-drop (suc k) zero h = absurd (omega arith)
zeros-drop (suc k) (suc n) h = ap (0 ∷◌) (zeros-drop k n (omega arith))

-- Two cells for each of the text are room enough for parts in either spelling.
laid-length : (b : Bool) (p : List ℕ) → length (laid b p) ≤ suc (length p)
unfolding laid
laid-length true p = omega arith
laid-length false p = omega arith

module _ (t : List ℕ) (new : Bool) where
  spelled-leads : (n i : ℕ) (b : Bool) (x : Result (ℕ × ℕ) ℕ) → Placed t i x → ((e : ℕ) (c : Bool) → e ≤ length t → length (spelled new c (map trim (texts (prefix t n e)))) ≤ 2 * (length t - e))
      → length (spelled new b (map trim (texts (leads t x (prefix t n (end_of x)))))) ≤ 2 * (length t - i)
  unfolding spelled
  spelled-leads n i b (Err e) k f = omega arith
  spelled-leads n i b (Ok x) k f =
      let p = trim (part t x.0 x.1) in
      omega (arith, length-append (laid (tied new b p) p) (spelled new (new && is_symbol_text p) (map trim (texts (prefix t n x.1)))), laid-length (tied new b p) p, trim-length (part t x.0 x.1), part_length t x.0 x.1 k.2, f x.1 (new && is_symbol_text p) k.2, k.0, k.1)

  spelled-fits : (n i : ℕ) (b : Bool) → i ≤ length t → length (spelled new b (map trim (texts (prefix t n i)))) ≤ 2 * (length t - i)
  unfolding prefix spelled
  spelled-fits zero i b h = omega arith
  spelled-fits (suc n) i b h = spelled-leads n i b (next_of t i) (next_placed t i h) (λ e c m. spelled-fits n e c m)

pub room : (t : List ℕ) (new : Bool) (from m : ℕ) {n : ℕ} → 2 * length t ≤ n → from ≤ length t → length (spelling new (prefix t m from)) ≤ n
room t new from m l h = omega (arith, spelled-fits t new m from true h)

pub used : (t : List ℕ) (new : Bool) (from m : ℕ) {k : ℕ} {o o₁ : List ℕ} → Wrote o (spelling new (prefix t m from)) k o₁ → 2 * length t ≤ length o → from ≤ length t → k ≤ length o
used t new from m w l h = omega (arith, w.size, room t new from m l h)

pub sized : {o v o' : List ℕ} {n k : ℕ} → Left o v n k o' → k ≡ length (take k o')
sized f = f.size ∙ ap length (sym f.front)

-- What was asked for is the flattened prefix, and scratch is as it was.
module _ (t : List ℕ) (from m : ℕ) {k j : ℕ} {o o₁ o₂ : List ℕ} (w : Wrote o (spelling false (prefix t m from)) k o₁) (f : Left o₁ (flat (take k o₁)) k j o₂) where
  pub asked : {g : Flags} {is_name : List ℕ → Bool} {found property : Bool} → Asked g is_name (take j o₂) found property → Asked g is_name (flatten (texts (prefix t m from))) found property
  asked {g} {is_name} {found} {property} p =
      let e : take k o₁ ≡ spelling false (prefix t m from) = rw (w.left, w.size) (take-append_seam (spelling false (prefix t m from)) _) in
      subst (λ x. Asked g is_name x found property) (f.front ∙ ap flat (e ∙ spelled_by_space (map trim (texts (prefix t m from))))) p

  pub restored : Clear o → k ≤ length o → {z : List ℕ} → z ≡ zeros k → z ++ drop k o₂ ≡ o
  restored z h e =
      let d : drop k o₁ ≡ drop k o = rw (w.left, w.size) (drop-front (spelling false (prefix t m from)) o (length (spelling false (prefix t m from))) (omega arith)) in
      rw e (ap (zeros k ++◌) (f.behind ∙ d ∙ ap (drop k) z.all) ∙ zeros-drop k (length o) h ∙ sym z.all)

-- From n parts down: those longer than m are not found.
pub record Searching (f : Flags) (is_name : List ℕ → Bool) (t : List ℕ) (from n m : ℕ) (o o' : List ℕ) : Type 0 where
  pub less : m ≤ n
  pub left : o' ≡ o
  pub same : length o' ≡ length o
  pub goal : fit (is_found f is_name) t from n ≡ fit (is_found f is_name) t from m

pub searching_none : (f : Flags) (is_name : List ℕ → Bool) (t : List ℕ) (from n : ℕ) (o : List ℕ) → Searching f is_name t from n n o o
searching_none f is_name t from n o = record { less = omega arith; left = refl; same = refl; goal = refl }

fit_more : (found : List ℕ → Bool) (t : List ℕ) (from n : ℕ) → fit found t from (suc n) ≡ cond (fits found (prefix t (suc n) from)) (suc n) (fit found t from n)
unfolding fit
fit_more found t from n = refl

module _ {f : Flags} {is_name : List ℕ → Bool} {t : List ℕ} {from n m : ℕ} {o o' : List ℕ} (s : Searching f is_name t from n m o o') where
  pub searching_clear : Clear o → Clear o'
  searching_clear c = rw s.left c

  pub searching_end : m ≤ 0 → {b : Bool} → Longest f is_name t from n 0 b
  unfolding fit
  searching_end l = let e : m ≡ 0 = omega arith in record { most = sym (s.goal ∙ rw e); one = λ h. absurd (omega arith) }

  module _ (l : 0 < m) {b p : Bool} (q : Asked f is_name (flatten (texts (prefix t m from))) b p) where
    one : fit (is_found f is_name) t from m ≡ cond b m (fit (is_found f is_name) t from (m - 1))
    one = let e : m ≡ suc (m - 1) = omega arith in
        subst (λ x. b ≡ is_found f is_name (flatten (texts (prefix t x from))) → fit (is_found f is_name) t from x ≡ cond b x (fit (is_found f is_name) t from (m - 1))) (sym e)
        (λ y. fit_more (is_found f is_name) t from (m - 1) ∙ rw (← y)) q.any

    pub searching_found : b ≡ true → Longest f is_name t from n m p
    searching_found e = record { most = sym (s.goal ∙ one ∙ rw e); one = λ _. q.one }

    pub searching_more : b ≡ false → {o'' : List ℕ} → o'' ≡ o' → Searching f is_name t from n (m - 1) o o''
    searching_more e u = let k = s.less in record { less = omega arith; left = u ∙ s.left; same = ap length u ∙ s.same; goal = s.goal ∙ one ∙ rw e }

-- A property has at most 14 cells.
short_member : (n : ℕ) (ys : List (List ℕ)) → all_of (λ y. leb (length y) n) ys ≡ true → (x : List ℕ) → member x ys ≡ true → length x ≤ n
unfolding member
short_member n [] h x g = absurd (false≢true g)
short_member n (y ∷ ys) h x g =
    let a = both (leb (length y) n) _ h in
    either (same y x) g (λ e. omega (arith, equal_length y x e, leb-true (length y) n a.0)) (λ e. short_member n ys a.1 x e)

property_short : (x : List ℕ) → member x property_names ≡ true → length x ≤ 14
unfolding property_names range_properties date_properties time_properties
property_short x h = short_member 14 property_names refl x h

pub capped : {is_name : List ℕ → Bool} {cap : ℕ} → Capped is_name cap → (f : Flags) {c : ℕ} → (cap ≤ c) × (f.after_dot ≡ true → 14 ≤ c) → (x : List ℕ) → is_found f is_name x ≡ true → length x ≤ c
capped k f h x e = either (is_property f x) e
    (λ p. let a = both f.after_dot _ p in omega (arith, h.1 a.0, property_short x a.1))
    (λ p. omega (arith, h.0, k.so x p))

-- A bound changes nothing.
pub bounded : {f : Flags} {is_name : List ℕ → Bool} {t : List ℕ} {from n m parts : ℕ} {property : Bool} → fit (is_found f is_name) t from n ≡ fit (is_found f is_name) t from m → Longest f is_name t from m parts property → Longest f is_name t from n parts property
bounded e l = record { most = l.most ∙ sym e; one = l.one }
