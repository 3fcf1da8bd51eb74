-- A loop along the parts stands behind the first m of them; what is left are the parts from there on.
use Rattle.std.specs.Prelude.{Option, None, Some, Result, Ok, Err}
use mathlib.Core.Path.{◌≡◌, refl, sym, ap, ◌∙◌, subst}
use mathlib.Core.Bool.{Bool, true, false, cond, ◌&&◌, false≢true}
use mathlib.Core.List.{List, [], ◌∷◌, ◌++◌, map, append_assoc, append-nil}
use Prim.Native.Nat.{ℕ, zero, suc, ◌+◌, ◌-◌, ◌≤◌, ◌<◌}
use native.Mathlib.Omega.{arith}
use lib.ListN.{length, take, length-take}
use lib.Seq.{take-append_seam}
use Rattle.reading.specs.Codes.{codes}
use Rattle.reading.specs.Look.{cell_at}
use Rattle.reading.specs.Cells.{is}
use Rattle.reading.specs.Span.{part}
use Rattle.reading.specs.Slices.{front, Wrote}
use Rattle.names.specs.Same.{same, member}
use Rattle.names.specs.Fixed.{type_names, temporal_names}
use Rattle.names.specs.Trim.{trim}
use Rattle.names.specs.Name.{new_name}
use Rattle.names.proofs.SameLaws.{same_sym}
use Rattle.names.proofs.NameLaws.{spelled-joined}
use Rattle.lexer.specs.Parts.{Part}
use Rattle.lexer.specs.Read.{token, outcome}
use Rattle.lexer.specs.Naming.{texts, name_of, end_of, starts_with, with_part, before_in, all_parts}
use Rattle.lexer.specs.Flags.{TypeName, clear}
use Rattle.lexer.specs.declared.flags.Flags.{Flags}
use Rattle.lexer.specs.TypeNumber.{type_number}
use Rattle.lexer.specs.Answered.{letters}
use Rattle.lexer.specs.declared.token.Token.TheVariants.{Chars}
use Rattle.lexer.specs.declared.token_type.TokenType.{TokenType}
use Rattle.lexer.specs.declared.token_type.TokenType.TheVariants.{Name, NameDateTime, BuiltInTypeName}
use Rattle.lexer.specs.Places.{next_of, between, Placed, prefix, spelling, leads}
use Rattle.lexer.specs.Places.{end_of as place_of}
use Rattle.lexer.specs.FlagsOf.{flags_of}
use Rattle.lexer.specs.Taken.{Gives}
use Rattle.naming.specs.Cut.{Before, Roomy}
use Rattle.lexer.proofs.PartLaws.{prefix-at, prefix_over}
use Rattle.lexer.proofs.WalkLaws.{prefix-take}

-- The first part alone, or none where the walk ends.
pub starts_over : (t : List ℕ) (i e : ℕ) (x : List ℕ) → Err e ≡ next_of t i → false ≡ starts_with x (prefix t 1 i)
unfolding prefix
starts_over t i e x q = rw (← q)

module _ (t : List ℕ) (i : ℕ) {p : Result (ℕ × ℕ) ℕ} (q : (p ≡ next_of t i) × Placed t i p) (x : List ℕ) where
  pub starts_at : {r : ℕ × ℕ} → p ≡ Ok r → {b : Bool} → b ≡ same x (part t r.0 r.1) → b ≡ starts_with x (prefix t 1 i)
  unfolding prefix
  starts_at {r} f h = h ∙ same_sym x (part t r.0 r.1) ∙ rw (← q.0, f)

  pub starts_not : {e : ℕ} → p ≡ Err e → false ≡ starts_with x (prefix t 1 i)
  starts_not {e} f = starts_over t i e x (sym f ∙ q.0)

  pub placed_at : {r : ℕ × ℕ} → p ≡ Ok r → (i ≤ r.0) × (r.0 < r.1) × (r.1 ≤ length t)
  placed_at f = subst (Placed t i) f q.1

pub record Stepping (t : List ℕ) (from i m : ℕ) : Type 0 where
  pub within : i ≤ length t
  pub so : (k : ℕ) → prefix t (m + k) from ≡ prefix t m from ++ prefix t k i
  pub end : 0 < m → end_of (prefix t m from) ≡ i

prefix_none : (t : List ℕ) (i : ℕ) → prefix t 0 i ≡ []
unfolding prefix
prefix_none t i = refl

pub stepping_none : (t : List ℕ) (from : ℕ) → from ≤ length t → Stepping t from from 0
stepping_none t from h = record { within = h; so = λ k. let z : 0 + k ≡ k = omega arith in rw (z, prefix_none t from); end = λ l. absurd (omega arith) }

end_snoc : (ps : List Part) (p : Part) → end_of (ps ++ p ∷ []) ≡ p.end
end_snoc [] p = refl
end_snoc (q ∷ []) p = refl
end_snoc (q ∷ r ∷ ps) p = end_snoc (r ∷ ps) p

module _ {t : List ℕ} {from i m : ℕ} (g : Stepping t from i m) {p : Result (ℕ × ℕ) ℕ} (q : (p ≡ next_of t i) × Placed t i p) where
  module _ {x : ℕ × ℕ} (r : p ≡ Ok x) where
    pub stepped : prefix t (m + 1) from ≡ prefix t m from ++ between t x.0 x.1 ∷ []
    stepped = g.so 1 ∙ ap (prefix t m from ++◌) (prefix-at t i 0 x (sym r ∙ q.0) ∙ ap (between t x.0 x.1 ∷◌) (prefix_none t x.1))

    pub stepping_more : Stepping t from x.1 (m + 1)
    stepping_more = record {
      within = (placed_at t i q [] r).2;
      so = λ k.
          let z : m + 1 + k ≡ m + suc k = omega arith in
          rw z (g.so (suc k) ∙ ap (prefix t m from ++◌) (prefix-at t i k x (sym r ∙ q.0)) ∙ sym (append_assoc (prefix t m from) (between t x.0 x.1 ∷ []) (prefix t k x.1)) ∙ ap (◌++ prefix t k x.1) (sym stepped));
      end = λ _. ap end_of stepped ∙ end_snoc (prefix t m from) (between t x.0 x.1);
    }

  pub stepping_over : {n e : ℕ} → p ≡ Err e → m ≤ n → prefix t n from ≡ prefix t m from
  stepping_over {n} {e} r h =
      let z : m + (n - m) ≡ n = omega arith in
      rw z at (g.so (n - m)) ∙ ap (prefix t m from ++◌) (prefix_over t i (n - m) e (sym r ∙ q.0)) ∙ append-nil (prefix t m from)

-- No part so far is `in`.
pub record Seeking (t : List ℕ) (from n i m : ℕ) : Type 0 where
  pub upto : m ≤ n
  pub steps : Stepping t from i m
  pub free : before_in (prefix t m from) ≡ None

pub seeking_none : (t : List ℕ) (from n : ℕ) → from ≤ length t → Seeking t from n from 0
seeking_none t from n h = record { upto = omega arith; steps = stepping_none t from h; free = rw (prefix_none t from) refl }

abbrev is_none : Option (List Part) → Bool
is_none None = true
is_none (Some ps) = false

with_none : (p : Part) (o : Option (List Part)) → with_part p o ≡ None → o ≡ None
with_none p None e = refl
with_none p (Some qs) e = absurd (false≢true (ap is_none e))

in_snoc : (ps : List Part) (p : Part) (qs : List Part) → before_in ps ≡ None → same p.cells (codes "in") ≡ true → before_in (ps ++ p ∷ qs) ≡ Some ps
in_snoc [] p qs f h = rw h
in_snoc (q ∷ ps) p qs f h = go (same q.cells (codes "in")) (λ e. in_snoc ps p qs e h) f
  where
    go : (b : Bool) → (before_in ps ≡ None → before_in (ps ++ p ∷ qs) ≡ Some ps) → cond b (Some []) (with_part q (before_in ps)) ≡ None → cond b (Some []) (with_part q (before_in (ps ++ p ∷ qs))) ≡ Some (q ∷ ps)
    go true k e = absurd (false≢true (ap is_none e))
    go false k e = rw (k (with_none q (before_in ps) e))

out_snoc : (ps : List Part) (p : Part) → before_in ps ≡ None → same p.cells (codes "in") ≡ false → before_in (ps ++ p ∷ []) ≡ None
out_snoc [] p f h = rw h
out_snoc (q ∷ ps) p f h = go (same q.cells (codes "in")) (λ e. out_snoc ps p e h) f
  where
    go : (b : Bool) → (before_in ps ≡ None → before_in (ps ++ p ∷ []) ≡ None) → cond b (Some []) (with_part q (before_in ps)) ≡ None → cond b (Some []) (with_part q (before_in (ps ++ p ∷ []))) ≡ None
    go true k e = absurd (false≢true (ap is_none e))
    go false k e = rw (k (with_none q (before_in ps) e))

module _ {t : List ℕ} {from n i m : ℕ} (g : Seeking t from n i m) where
  pub seeking_end : n ≤ m → Before t from n None
  seeking_end l = let e : m ≡ n = omega (arith, g.upto) in rw e at g.free

  module _ {p : Result (ℕ × ℕ) ℕ} (q : (p ≡ next_of t i) × Placed t i p) where
    pub seeking_over : {e : ℕ} → p ≡ Err e → Before t from n None
    seeking_over r = rw (stepping_over g.steps q r g.upto) g.free

    module _ (l : m < n) {x : ℕ × ℕ} (r : p ≡ Ok x) {b : Bool} (h : b ≡ same (codes "in") (part t x.0 x.1)) where
      pub seeking_found : b ≡ true → Before t from n (Some m)
      seeking_found f =
          let z : m + suc (n - suc m) ≡ n = omega arith in
          let a : prefix t n from ≡ prefix t m from ++ between t x.0 x.1 ∷ prefix t (n - suc m) x.1 = rw z at (g.steps.so (suc (n - suc m))) ∙ ap (prefix t m from ++◌) (prefix-at t i (n - suc m) x (sym r ∙ q.0)) in
          (omega arith, rw a (in_snoc (prefix t m from) (between t x.0 x.1) (prefix t (n - suc m) x.1) g.free (same_sym (part t x.0 x.1) (codes "in") ∙ sym h ∙ f)))

      pub seeking_more : b ≡ false → Seeking t from n x.1 (m + 1)
      seeking_more f = record {
        upto = omega arith;
        steps = stepping_more g.steps q r;
        free = rw (stepped g.steps q r) (out_snoc (prefix t m from) (between t x.0 x.1) g.free (same_sym (part t x.0 x.1) (codes "in") ∙ sym h ∙ f));
      }

leads-length : (t : List ℕ) (x : Result (ℕ × ℕ) ℕ) (ps : List Part) (n : ℕ) → length ps ≤ n → length (leads t x ps) ≤ suc n
leads-length t (Ok p) ps n h = omega arith
leads-length t (Err e) ps n h = omega arith

prefix-length : (t : List ℕ) (n i : ℕ) → length (prefix t n i) ≤ n
unfolding prefix
prefix-length t zero i = omega arith
prefix-length t (suc n) i = leads-length t (next_of t i) (prefix t n (place_of (next_of t i))) n (prefix-length t n (place_of (next_of t i)))

-- The walk to the end of m parts, of which there are as many.
module _ {t : List ℕ} {from i k : ℕ} (g : Stepping t from i k) where
  pub end-all : {m : ℕ} → k ≤ m → m ≤ k → 0 < m → i ≡ end_of (prefix t m from)
  end-all {m} h l z = let e : k ≡ m = omega arith in rw e at (sym (g.end (omega arith)))

  pub end_over : {p : Result (ℕ × ℕ) ℕ} (q : (p ≡ next_of t i) × Placed t i p) {m e : ℕ} → p ≡ Err e → k < m → length (prefix t m from) ≡ m → {r : ℕ} → r ≡ end_of (prefix t m from)
  end_over q {m} r l c = let z = ap length (stepping_over g q {n = m} r (omega arith)) in absurd (omega (arith, z, prefix-length t k from, c))

pub prefix_many : (t : List ℕ) (from n m : ℕ) → length (prefix t n from) ≡ n → m ≤ n → length (prefix t m from) ≡ m
prefix_many t from n m c l = sym (ap length (prefix-take t m n from l)) ∙ length-take m (prefix t n from) ∙ rw c (omega arith)

-- The value of a name.
pub value_of : (ps : List Part) → spelling true ps ≡ new_name (texts ps)
value_of ps = spelled-joined true (map trim (texts ps))

pub gives_name : (t : List ℕ) (from m : ℕ) {o o' : List ℕ} {k : ℕ} → Wrote o (spelling true (prefix t m from)) k o' → (kind : TokenType) (end : ℕ) (f : Flags) (reach : ℕ)
    → Gives (outcome (token (type_number kind) (name_of (prefix t m from))) end (flags_of f)) reach o (record { read = Ok (Chars kind k); used = end; flags = f; reach = reach }) o'
gives_name t from m {o} w kind end f reach = let v = value_of (prefix t m from) in record {
  read = ap (letters (type_number kind)) (w.size ∙ ap length v);
  used = refl;
  flags = refl;
  looked = refl;
  left = w.left ∙ ap (λ x. front x o) v;
}

-- The name just written is read from the output's front.
pub written : (t : List ℕ) (from m : ℕ) {o o' : List ℕ} {k : ℕ} → Wrote o (spelling true (prefix t m from)) k o' → take k o' ≡ new_name (texts (prefix t m from))
written t from m w = rw (w.left, w.size) (take-append_seam (spelling true (prefix t m from)) _) ∙ value_of (prefix t m from)

pub written_room : (t : List ℕ) (from n : ℕ) {o o' : List ℕ} {k : ℕ} → Wrote o (spelling true (prefix t n from)) k o' → {l : ℕ} → Roomy t from n l → k ≤ l
written_room t from n w r = omega (arith, w.size, r.so n (omega arith))

pub written_size : (t : List ℕ) (from n : ℕ) {o o' : List ℕ} {k : ℕ} → Wrote o (spelling true (prefix t n from)) k o' → k ≡ length (take k o')
written_size t from n w = w.size ∙ ap length (value_of (prefix t n from)) ∙ sym (ap length (written t from n w))

-- All parts are a type name, a temporal name or a plain one.
module _ (t : List ℕ) (from n end : ℕ) {o o' : List ℕ} {k : ℕ} (w : Wrote o (spelling true (prefix t n from)) k o') (f : Flags) (is_name : List ℕ → Bool) {b : Bool} (p : b ≡ (flags_of f).type_name && member (take k o') type_names) where
  abbrev All : TokenType → Flags → Type 0
  All kind g = Gives (all_parts (flags_of f) is_name from (prefix t n from) (cell_at t end) end) (end + 1) o (record { read = Ok (Chars kind k); used = end; flags = g; reach = end + 1 }) o'

  test : b ≡ (flags_of f).type_name && member (new_name (texts (prefix t n from))) type_names
  test = p ∙ ap (λ x. (flags_of f).type_name && member x type_names) (written t from n w)

  pub all_type : b ≡ true → {g : Flags} → flags_of g ≡ clear TypeName (flags_of f) → All BuiltInTypeName g
  all_type e {g} h =
      let x = gives_name t from n w BuiltInTypeName end g (end + 1) in
      rw (sym test ∙ e) (record { read = x.read; used = refl; flags = h; looked = refl; left = x.left })

  module _ (e : b ≡ false) {a : Bool} (q : a ≡ member (take k o') temporal_names && is 0x28 (cell_at t end)) where
    test_temporal : a ≡ member (new_name (texts (prefix t n from))) temporal_names && is 0x28 (cell_at t end)
    test_temporal = q ∙ ap (λ x. member x temporal_names && is 0x28 (cell_at t end)) (written t from n w)

    pub all_temporal : a ≡ true → All NameDateTime f
    all_temporal d = rw (sym test ∙ e, sym test_temporal ∙ d) (gives_name t from n w NameDateTime end f (end + 1))

    pub all_plain : a ≡ false → All Name f
    all_plain d = rw (sym test ∙ e, sym test_temporal ∙ d) (gives_name t from n w Name end f (end + 1))
