-- A loop that writes parts has written some of them, and what is left is the same spelling from where it stands.
use Rattle.std.specs.Prelude.{Result, Ok, Err}
use mathlib.Core.Path.{◌≡◌, refl, sym, ap, ◌∙◌, subst}
use mathlib.Core.Bool.{Bool, true, false, ◌&&◌}
use mathlib.Core.List.{List, [], ◌∷◌, ◌++◌, map, append-nil, append_assoc}
use Prim.Native.Nat.{ℕ, zero, suc, ◌+◌, ◌-◌, ◌≤◌, ◌<◌}
use native.Mathlib.Omega.{arith}
use lib.ListN.{length, length-append, length-drop}
use Rattle.reading.specs.Look.{cell_at}
use Rattle.reading.specs.Cells.{holds}
use Rattle.reading.specs.Span.{part}
use Rattle.reading.specs.Slices.{front, Wrote, Further}
use Rattle.reading.proofs.Passed.{Passed, passed_more}
use Rattle.reading.proofs.Cell.{cell_there}
use Rattle.text.specs.Classes.{is_whitespace, is_name_part, is_symbol}
use Rattle.names.specs.Trim.{trim}
use Rattle.names.specs.Name.{is_symbol_text}
use Rattle.names.specs.Spelling.{tied, laid, spelled}
use Rattle.lexer.specs.Naming.{texts}
use Rattle.lexer.specs.Places.{here_of, start_of, next_of, between, Placed, prefix, spelling}

module _ (t : List ℕ) (i : ℕ) {a : Bool} (p : a ≡ holds is_name_part (cell_at t i)) where
  pub here_word : a ≡ true → {j : ℕ} → Passed is_name_part t i j → (Ok (i, j) ≡ here_of t i) × Placed t i (Ok (i, j))
  unfolding here_of
  here_word f d = (rw (sym p ∙ f, d.end), (omega arith, passed_more d (sym p ∙ f), d.within))

  module _ (f : a ≡ false) {b : Bool} (q : b ≡ holds is_symbol (cell_at t i)) where
    pub here_symbol : b ≡ true → (Ok (i, i + 1) ≡ here_of t i) × Placed t i (Ok (i, i + 1))
    unfolding here_of
    here_symbol g = let l = cell_there is_symbol t i (sym q ∙ g) in (rw (sym p ∙ f, sym q ∙ g), (omega arith, omega arith, omega arith))

    pub here_over : b ≡ false → Err i ≡ here_of t i
    unfolding here_of
    here_over g = rw (sym p ∙ f, sym q ∙ g)

    pub here_none : b ≡ false → i ≤ length t → (Err i ≡ here_of t i) × Placed t i (Err i)
    here_none g l = (here_over g, (omega arith, l))

-- The next part must start right here where a word or a symbol does, and else behind the whitespace.
module _ (t : List ℕ) (i : ℕ) where
  abbrev Starts : ℕ → Type 0
  Starts j = (j ≡ start_of t i) × (i ≤ j) × (j ≤ length t)

  module _ {a : Bool} (p : a ≡ holds is_name_part (cell_at t i)) where
    pub start_word : a ≡ true → i ≤ length t → Starts i
    unfolding start_of
    start_word f l = (rw (sym p ∙ f), omega arith, l)

    module _ (f : a ≡ false) {b : Bool} (q : b ≡ holds is_symbol (cell_at t i)) where
      pub start-symbol : b ≡ true → i ≤ length t → Starts i
      unfolding start_of
      start-symbol g l = (rw (sym p ∙ f, sym q ∙ g), omega arith, l)

      pub start_space : b ≡ false → {j : ℕ} → Passed is_whitespace t i j → Starts j
      unfolding start_of
      start_space g d = (rw (sym p ∙ f, sym q ∙ g, d.end), d.from, d.within)

pub next_start : (t : List ℕ) (i j : ℕ) → (j ≡ start_of t i) × (i ≤ j) × (j ≤ length t) → (r : Result (ℕ × ℕ) ℕ) → (r ≡ here_of t j) × Placed t j r → (r ≡ next_of t i) × Placed t i r
next_start t i j s (Ok p) h = (h.0 ∙ ap (here_of t) s.0, (let n = s.1 in let m = h.1.0 in omega arith, h.1.1, h.1.2))
next_start t i j s (Err e) h = (h.0 ∙ ap (here_of t) s.0, (let n = s.1 in let m = h.1.0 in omega arith, h.1.1))

-- parts, one after another
pub prefix-at : (t : List ℕ) (i n : ℕ) (p : ℕ × ℕ) → Ok p ≡ next_of t i → prefix t (suc n) i ≡ between t p.0 p.1 ∷ prefix t n p.1
unfolding prefix
prefix-at t i n p q = rw (← q)

pub prefix_over : (t : List ℕ) (i n e : ℕ) → Err e ≡ next_of t i → prefix t n i ≡ []
unfolding prefix
prefix_over t i zero e q = refl
prefix_over t i (suc n) e q = rw (← q)

spelled_none : (new b : Bool) → spelled new b [] ≡ []
unfolding spelled
spelled_none new b = refl

spelled_more : (new b : Bool) (p : List ℕ) (ps : List (List ℕ)) → spelled new b (p ∷ ps) ≡ laid (tied new b p) p ++ spelled new (new && is_symbol_text p) ps
unfolding spelled
spelled_more new b p ps = refl

abbrev Tail : List ℕ → Bool → Bool → ℕ → ℕ → List ℕ
Tail t new b n i = spelled new b (map trim (texts (prefix t n i)))

-- a loop that writes the first n parts from `from` on has written m of them, k cells, and stands at i; b: no space is due
pub record Spelling (t o : List ℕ) (new : Bool) (n from i m k : ℕ) (b : Bool) (o' : List ℕ) : Type 0 where
  pub written : List ℕ
  pub wrote : Wrote o written k o'
  pub within : i ≤ length t
  pub upto : m ≤ n
  pub same : length o' ≡ length o
  pub rest : written ++ Tail t new b (n - m) i ≡ spelling new (prefix t n from)

pub spelling_none : (t o : List ℕ) (new : Bool) (n from : ℕ) → from ≤ length t → Spelling t o new n from from 0 0 true o
spelling_none t o new n from h = let z : n - 0 ≡ n = omega arith in record {
  written = [];
  wrote = record { size = refl; left = refl };
  within = h;
  upto = omega arith;
  same = refl;
  rest = rw z;
}

wrote_length : {o v o' : List ℕ} {k : ℕ} → Wrote o v k o' → length v ≤ length o → length o' ≡ length o
wrote_length w h = rw (w.left, length-append, length-drop) (omega arith)

module _ {t o : List ℕ} {new : Bool} {n from i m k : ℕ} {b : Bool} {o' : List ℕ} (g : Spelling t o new n from i m k b o') where
  ended : Tail t new b (n - m) i ≡ [] → Wrote o (spelling new (prefix t n from)) k o'
  ended e =
      let q : g.written ≡ spelling new (prefix t n from) = sym (append-nil g.written) ∙ ap (g.written ++◌) (sym e) ∙ g.rest in
      record { size = g.wrote.size ∙ ap length q; left = g.wrote.left ∙ ap (λ v. front v o) q }

  pub spelling-end : n ≤ m → Wrote o (spelling new (prefix t n from)) k o'
  unfolding prefix
  spelling-end l = let z : n - m ≡ 0 = omega arith in ended (rw z (spelled_none new b))

  module _ {x : Result (ℕ × ℕ) ℕ} (q : (x ≡ next_of t i) × Placed t i x) where
    pub spelling_over : {e : ℕ} → x ≡ Err e → Wrote o (spelling new (prefix t n from)) k o'
    spelling_over {e} r = ended (rw (prefix_over t i (n - m) e (sym r ∙ q.0)) (spelled_none new b))

    pub spelling_on : {p : ℕ × ℕ} → x ≡ Ok p → (i ≤ p.0) × (p.0 < p.1) × (p.1 ≤ length t)
    spelling_on r = subst (Placed t i) r q.1

    module _ (l : m < n) (room : length (spelling new (prefix t n from)) ≤ length o) {p : ℕ × ℕ} (r : x ≡ Ok p) {w : List ℕ} (tr : w ≡ trim (part t p.0 p.1)) {c : Bool} (pc : c ≡ tied new b w) where
      step : Tail t new b (n - m) i ≡ laid c w ++ Tail t new (new && is_symbol_text w) (n - (m + 1)) p.1
      step =
          let y : n - m ≡ suc (n - (m + 1)) = omega arith in
          rw (y, prefix-at t i (n - (m + 1)) p (sym r ∙ q.0), ← tr, pc) (spelled_more new b w _)

      total : g.written ++ laid c w ++ Tail t new (new && is_symbol_text w) (n - (m + 1)) p.1 ≡ spelling new (prefix t n from)
      total = append_assoc g.written _ _ ∙ ap (g.written ++◌) (sym step) ∙ g.rest

      fits : length (g.written ++ laid c w) ≤ length o
      fits = omega (arith, ap length total, length-append (g.written ++ laid c w) (Tail t new (new && is_symbol_text w) (n - (m + 1)) p.1))

      pub spelling-room : k + length (laid c w) ≤ length o'
      spelling-room = omega (arith, fits, length-append g.written (laid c w), g.wrote.size, g.same)

      pub spelling_more : {k' : ℕ} {o'' : List ℕ} → Further o' k (laid c w) k' o'' → {b' : Bool} → b' ≡ new && is_symbol_text w → Spelling t o new n from p.1 (m + 1) k' b' o''
      spelling_more f {b'} pb = let q = f.so o g.written g.wrote in record {
        written = g.written ++ laid c w;
        wrote = q;
        within = (spelling_on r).2;
        upto = omega arith;
        same = wrote_length q fits;
        rest = rw pb total;
      }
