-- Texts that begin with a name and a dot, and keys behind them.
use mathlib.Core.Path.{◌≡◌, refl, sym, ◌∙◌, ap}
use mathlib.Core.Bool.{Bool, true, false, ◌&&◌, ◌||◌}
use mathlib.Core.List.{List, [], ◌∷◌, ◌++◌}
use Prim.Native.Nat.{ℕ, ◌+◌}
use lib.Dec.{eqb}
use lib.Pointwise.{pointwise}
use lib.ListN.{length, drop, take, length-append}
use lib.Seq.{drop-drop}
use Rattle.std.specs.Prelude.{Option, Some, None, MatchOption}
use Rattle.std.specs.Borrow.{Bor}
use Rattle.reading.specs.Codes.{codes}
use Rattle.names.specs.Same.{same, member}
use Rattle.names.proofs.SameLaws.{eqb_sym}
use Rattle.scope.specs.Keys.{qualified}
use Rattle.search.specs.Rests.{leads}
use Rattle.scope.proofs.SearchLaws.{and_none}

abbrev dot : List ℕ
dot = codes " . "

and_assoc : (a b c : Bool) → a && (b && c) ≡ (a && b) && c
and_assoc true b c = refl
and_assoc false b c = refl

-- A text of two parts.
same-append : (p k x : List ℕ) → same (p ++ k) x ≡ leads p x && same k (drop (length p) x)
unfolding same leads
same-append [] k x = refl
same-append (a ∷ p) k [] = refl
same-append (a ∷ p) k (b ∷ x) = ap (λ z. eqb a b && z) (same-append p k x) ∙ and_assoc (eqb a b) _ _

leads-append : (p q x : List ℕ) → leads (p ++ q) x ≡ leads p x && leads q (drop (length p) x)
unfolding leads
leads-append [] q x = refl
leads-append (a ∷ p) q [] = refl
leads-append (a ∷ p) q (b ∷ x) = ap (λ z. eqb a b && z) (leads-append p q x) ∙ and_assoc (eqb a b) _ _

-- What std's comparison says of a prefix.
leads-front : (p x : List ℕ) → pointwise eqb (take (length p) x) p ≡ leads p x
unfolding leads
leads-front [] x = refl
leads-front (a ∷ p) [] = refl
leads-front (a ∷ p) (b ∷ x) = rw (eqb_sym b a) (ap (λ z. eqb a b && z) (leads-front p x))

-- A text that begins with p, or with p and then q.
module _ (p q x : List ℕ) where
  pub front_other : pointwise eqb (take (length p) x) p ≡ false → leads (p ++ q) x ≡ false
  front_other h = leads-append p q x ∙ rw (sym (leads-front p x) ∙ h)

  module _ (h : pointwise eqb (take (length p) x) p ≡ true) {y : List ℕ} (e : y ≡ drop (length p) x) where
    front_leads : pointwise eqb (take (length q) y) q ≡ leads (p ++ q) x
    front_leads = leads-front q y ∙ sym (leads-append p q x ∙ rw (sym (leads-front p x) ∙ h, e))

    pub behind_front : (r : Option (Bor (List ℕ)))
        → MatchOption r (pointwise eqb (take (length q) y) q ≡ false) (λ z. (pointwise eqb (take (length q) y) q ≡ true) × (z.now ≡ drop (length q) y) × (length z.now + length q ≡ length y))
        → MatchOption r (leads (p ++ q) x ≡ false) (λ z. (leads (p ++ q) x ≡ true) × (z.now ≡ drop (length (p ++ q)) x))
    behind_front None k = sym front_leads ∙ k
    behind_front (Some z) k = (sym front_leads ∙ k.0, k.1 ∙ rw (e, length-append p q, drop-drop (length q) (length p) x))

-- Keys of a list of two parts, and behind a context's name.
pub member-append : (x : List ℕ) (k l : List (List ℕ)) → member x (k ++ l) ≡ member x k || member x l
unfolding member
member-append x [] l = refl
member-append x (a ∷ k) l = ap (λ z. same a x || z) (member-append x k l) ∙ or_assoc (same a x) _ _
  where
    or_assoc : (a b c : Bool) → a || (b || c) ≡ (a || b) || c
    or_assoc true b c = refl
    or_assoc false b c = refl

mixed : (a p b c d : Bool) → a || ((p && b) || (c || (p && d))) ≡ (a || c) || (p && (b || d))
mixed true p b c d = refl
mixed false true true true d = refl
mixed false true true false d = refl
mixed false true false true d = refl
mixed false true false false d = refl
mixed false false b true d = refl
mixed false false b false d = refl

pub member-qualified : (x n : List ℕ) (ks : List (List ℕ)) → member x (qualified n ks) ≡ member x ks || (leads (n ++ dot) x && member (drop (length (n ++ dot)) x) ks)
unfolding member qualified
member-qualified x n [] = sym (and_none (leads (n ++ dot) x))
member-qualified x n (k ∷ ks) = rw (assoc n dot k, same-append (n ++ dot) k x, member-qualified x n ks) (mixed (same k x) (leads (n ++ dot) x) _ _ _)
  where
    assoc : (a b c : List ℕ) → a ++ (b ++ c) ≡ (a ++ b) ++ c
    assoc [] b c = refl
    assoc (y ∷ a) b c = ap (λ z. y ∷ z) (assoc a b c)
