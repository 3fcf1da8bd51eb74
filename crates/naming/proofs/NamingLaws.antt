-- Each decision of the code is a clause of `cut_name`: the longest prefix by its number of parts, the parts before `in`, a colon.
use Rattle.std.specs.Prelude.{Option, None, Some, Result, Ok, Err}
use mathlib.Core.Path.{◌≡◌, refl, sym, ap, ◌∙◌, subst}
use mathlib.Core.Bool.{Bool, true, false, cond}
use mathlib.Core.List.{List, [], ◌∷◌}
use Prim.Native.Nat.{ℕ, zero, suc, ◌+◌, ◌≤◌, ◌<◌}
use native.Mathlib.Omega.{arith}
use lib.ListN.{length}
use Rattle.reading.specs.Codes.{codes}
use Rattle.reading.specs.Look.{cell_at}
use Rattle.reading.specs.Cells.{holds, is}
use Rattle.reading.specs.Goes.{Sees}
use Rattle.reading.proofs.Test.{by_test}
use Rattle.reading.proofs.Going.{begins, takes, asks, finds}
use Rattle.text.specs.Limits.{max_chars}
use Rattle.text.specs.Refusals.{starts_with_in}
use Rattle.text.specs.Classes.{is_name_part}
use Rattle.names.specs.Name.{new_name}
use Rattle.lexer.specs.Flags.{Flags, AfterDot, TillIn, clear}
use Rattle.lexer.specs.Read as spec
use Rattle.lexer.specs.Read.{token, refused, outcome}
use Rattle.lexer.specs.Parts.{Part}
use Rattle.lexer.specs.TokenType
use Rattle.lexer.specs.Token.{fuel}
use Rattle.lexer.specs.Naming.{texts, name_of, end_of, starts_with, before_in, fits, longest, is_property, is_found, all_parts, by_prefix, cut_name, read_name}
use Rattle.lexer.specs.declared.token.Outcome.{Outcome}
use Rattle.lexer.specs.Places.{next_of, leads, prefix, Counted}
use Rattle.lexer.specs.Fit.{fit, Longest}
use Rattle.lexer.specs.Taken.{Gives, Takes}
use Rattle.naming.specs.Cut.{Before, Roomy, by_prefix_of, by_in_of, cut_in_of}
use Rattle.lexer.proofs.WalkLaws.{prefix-take}
use Rattle.naming.proofs.CutLaws.{value_of}
use Rattle.lexer.proofs.NameFacts.{walk-room}

-- Another way to write what was given.
pub gives_as : {c d : spec.Outcome} {reach : ℕ} {o o' : List ℕ} {r : Outcome} → c ≡ d → Gives d reach o r o' → Gives c reach o r o'
gives_as {reach = reach} {o} {o'} {r} e g = subst (λ x. Gives x reach o r o') (sym e) g

pub gives_flags : {c : spec.Read} {u : ℕ} {f g : Flags} {reach : ℕ} {o o' : List ℕ} {r : Outcome} → g ≡ f → Gives (outcome c u g) reach o r o' → Gives (outcome c u f) reach o r o'
gives_flags {c} {u} {reach = reach} {o} {o'} {r} e g = subst (λ x. Gives (outcome c u x) reach o r o') e g

-- The longest prefix, by its number of parts.
abbrev parts_of : List ℕ → ℕ → ℕ → Option (List Part)
parts_of t from zero = None
parts_of t from (suc k) = Some (prefix t (suc k) from)

module _ (found : List ℕ → Bool) (t : List ℕ) (from n : ℕ) where
  fit-longest : (k : ℕ) → k ≤ n → longest found (prefix t n from) k ≡ parts_of t from (fit found t from k)
  unfolding fit
  fit-longest zero h = refl
  fit-longest (suc k) h = rw (prefix-take t (suc k) n from h) (go (fits found (prefix t (suc k) from)) (fit-longest k (omega arith)))
    where
      go : (b : Bool) → longest found (prefix t n from) k ≡ parts_of t from (fit found t from k)
          → cond b (Some (prefix t (suc k) from)) (longest found (prefix t n from) k) ≡ parts_of t from (cond b (suc k) (fit found t from k))
      go true q = refl
      go false q = q

  fit_less : (k : ℕ) → fit found t from k ≤ k
  unfolding fit
  fit_less zero = omega arith
  fit_less (suc k) = by_test (λ m. m ≤ suc k) (fits found (prefix t (suc k) from)) (λ _. omega arith) (λ _. omega (arith, fit_less k))

module _ {f : Flags} {is_name : List ℕ → Bool} {t : List ℕ} {from n m : ℕ} {property : Bool} (l : Longest f is_name t from n m property) where
  pub longest_less : m ≤ n
  longest_less = omega (arith, l.most, fit_less (is_found f is_name) t from n n)

  module _ {end : ℕ} (c : Counted t from n end) where
    found : by_prefix_of f is_name t from n end ≡ by_prefix f is_name from (prefix t n from) (cell_at t end) end (parts_of t from m)
    found = ap (by_prefix f is_name from (prefix t n from) (cell_at t end) end) (ap (longest (is_found f is_name) (prefix t n from)) c.count ∙ fit-longest (is_found f is_name) t from n n (omega arith) ∙ ap (parts_of t from) (sym l.most))

    pub prefix_none : m ≡ 0 → by_prefix_of f is_name t from n end ≡ all_parts f is_name from (prefix t n from) (cell_at t end) end
    prefix_none e = found ∙ rw e

    prefix_some : 0 < m → by_prefix_of f is_name t from n end ≡ outcome (token TokenType.Name (name_of (prefix t m from))) (end_of (prefix t m from)) (cond property (clear AfterDot f) f)
    prefix_some h = found ∙ go m h (l.one h)
      where
        go : (k : ℕ) → 0 < k → property ≡ fits (is_property f) (prefix t k from)
            → by_prefix f is_name from (prefix t n from) (cell_at t end) end (parts_of t from k) ≡ outcome (token TokenType.Name (name_of (prefix t k from))) (end_of (prefix t k from)) (cond property (clear AfterDot f) f)
        go zero z p = absurd (omega arith)
        go (suc k) z p = rw p

    pub prefix_found : 0 < m → {g : Flags} → g ≡ cond property (clear AfterDot f) f → {reach : ℕ} {o o' : List ℕ} {r : Outcome} → Gives (outcome (token TokenType.Name (name_of (prefix t m from))) (end_of (prefix t m from)) g) reach o r o'
        → Gives (by_prefix_of f is_name t from n end) reach o r o'
    prefix_found h q w = gives_as (prefix_some h) (gives_flags q w)

-- A colon behind the parts.
module _ (f : Flags) (is_name : List ℕ → Bool) (t : List ℕ) (from n end : ℕ) {b : Bool} (p : b ≡ is 0x3A (cell_at t end)) where
  pub colon_there : b ≡ true → by_in_of f is_name t from n end None ≡ outcome (token TokenType.Name (name_of (prefix t n from))) end f
  colon_there e = rw (sym p ∙ e)

  pub colon_not : b ≡ false → by_in_of f is_name t from n end None ≡ by_prefix_of f is_name t from n end
  colon_not e = rw (sym p ∙ e)

-- The parts before `in`.
module _ (f : Flags) (is_name : List ℕ → Bool) (t : List ℕ) (from n end : ℕ) where
  pub in_off : f.till_in ≡ false → cut_in_of f is_name t from n end ≡ by_in_of f is_name t from n end None
  in_off e = rw e

  module _ (e : f.till_in ≡ true) where
    pub in_not : Before t from n None → cut_in_of f is_name t from n end ≡ by_in_of f is_name t from n end None
    in_not b = rw (e, b)

    pub in_first : {m : ℕ} → Before t from n (Some m) → m ≡ 0 → cut_in_of f is_name t from n end ≡ outcome (refused starts_with_in 0) from f
    unfolding prefix
    in_first b z = rw (e, b.1, z)

    some_in : (qs : List Part) → 0 < length qs → by_in_of f is_name t from n end (Some qs) ≡ outcome (token TokenType.Name (name_of qs)) (end_of qs) (clear TillIn f)
    some_in [] h = absurd (omega arith)
    some_in (q ∷ qs) h = refl

    pub in_later : {m : ℕ} → Before t from n (Some m) → 0 < m → length (prefix t m from) ≡ m → cut_in_of f is_name t from n end ≡ outcome (token TokenType.Name (name_of (prefix t m from))) (end_of (prefix t m from)) (clear TillIn f)
    in_later {m} b l c = ap (λ x. by_in_of f is_name t from n end (cond x (before_in (prefix t n from)) None)) e ∙ ap (by_in_of f is_name t from n end) b.1 ∙ some_in (prefix t m from) (omega arith)

-- The first part alone decides on `item`.
starts_leads : (t x : List ℕ) (p : Result (ℕ × ℕ) ℕ) (ps qs : List Part) → starts_with x (leads t p ps) ≡ starts_with x (leads t p qs)
starts_leads t x (Ok p) ps qs = refl
starts_leads t x (Err e) ps qs = refl

starts_one : (t x : List ℕ) (n i : ℕ) → 0 < n → starts_with x (prefix t n i) ≡ starts_with x (prefix t 1 i)
unfolding prefix
starts_one t x zero i h = absurd (omega arith)
starts_one t x (suc n) i h = starts_leads t x (next_of t i) _ _

-- The reading of a name, once its parts are counted.
module _ {t : List ℕ} {i n end : ℕ} (c : Counted t i n end) (f : Flags) (is_name : List ℕ → Bool) where
  cut : spec.Outcome
  cut = cut_name f is_name i (prefix t n i) (cell_at t end) end

  name_sees : Sees t (read_name fuel f is_name i) (cut_name f is_name i (prefix t n i) (cell_at t end) end) (end + 1)
  name_sees = finds (asks (takes c.sees _ (begins t 0 (read_name fuel f is_name i)) (end + 1) (omega arith)) (end + 1) (omega arith))

  takes_name : {o o' : List ℕ} {r : Outcome} → Gives (cut_name f is_name i (prefix t n i) (cell_at t end) end) (end + 1) o r o' → Takes t 0 (read_name fuel f is_name i) o r o'
  takes_name {o} {o'} {r} g = record {
    read = (cut_name f is_name i (prefix t n i) (cell_at t end) end).read;
    sees = rw (g.used, g.flags, g.looked) name_sees;
    shown = g.read;
    left = g.left;
  }

  module _ (l : 0 < n) {b : Bool} (p : b ≡ starts_with (codes "item") (prefix t 1 i)) {o o' : List ℕ} {r : Outcome} where
    pub item_there : b ≡ true → Gives (outcome (token TokenType.Name (name_of (prefix t 1 i))) (end_of (prefix t 1 i)) f) (end + 1) o r o' → Takes t 0 (read_name fuel f is_name i) o r o'
    item_there e g = takes_name (gives_as (rw (starts_one t (codes "item") n i l ∙ sym p ∙ e, prefix-take t 1 n i (omega arith))) g)

    pub item_not : b ≡ false → Gives (cut_in_of f is_name t i n end) (end + 1) o r o' → Takes t 0 (read_name fuel f is_name i) o r o'
    item_not e g = takes_name (gives_as (rw (starts_one t (codes "item") n i l ∙ sym p ∙ e)) g)

-- Room for the value of each prefix.
module _ {t : List ℕ} (small : length t ≤ max_chars) {i : ℕ} (h : holds is_name_part (cell_at t i) ≡ true) {n end : ℕ} (c : Counted t i n end) where
  pub some_part : 0 < n
  some_part = omega (arith, (walk-room t fuel (omega arith) i h c.sees).0, c.count)

  pub roomy : {k : ℕ} → length t ≤ k → Roomy t i n k
  roomy {k} l = record {
    so = λ m b.
        let q = prefix-take t m n i b in
        omega (arith, ap length (value_of (prefix t m i)), ap (λ ps. length (new_name (texts ps))) q, (walk-room t fuel (omega arith) i h c.sees).1 m);
  }
