-- A text among names that are as long as it, and why the others need no look.
use Rattle.std.specs.Prelude.{Option, Some, None, MatchOption, nat_lt}
use Rattle.std.specs.List.{list_any, range_with_len}
use Rattle.std.specs.Slice.{IsItemAt}
use Rattle.std.proofs.Common.{Bor, arith}
use mathlib.Core.Path.{◌≡◌, refl, sym, ap, ◌∙◌}
use mathlib.Core.Bool.{Bool, true, false, cond, ◌||◌, true≢false}
use mathlib.Core.List.{List, [], ◌∷◌, map}
use Prim.Native.Nat.{ℕ, zero, suc, ◌+◌, ◌<◌, ◌≤◌}
use lib.Dec.{eqb}
use lib.ListN.{length, get_or, length-map}
use borrow.Author.Tests.{eqb-false, ltb-true, ltb-false}
use Rattle.reading.proofs.Test.{all_of, both}
use Rattle.names.specs.Same.{same, member}
use Rattle.names.proofs.SameLaws.{same_length}
use Rattle.functions.specs.Functions.{names_of, at_place}

-- A text found in a table is one of its names.
any_member : (x : List ℕ) (ts : List (Bor (List ℕ))) → list_any (λ t. same t.now x) ts ≡ member x (map (λ t. t.now) ts)
unfolding member
any_member x [] = refl
any_member x (t ∷ ts) = rw (any_member x ts)

-- The names of n cells.
unfoldable pub of_length : ℕ → List (List ℕ) → List (List ℕ)
of_length n [] = []
of_length n (x ∷ xs) = cond (eqb (length x) n) (x ∷ of_length n xs) (of_length n xs)

member_of_length : (s : List ℕ) (xs : List (List ℕ)) → member s (of_length (length s) xs) ≡ member s xs
unfolding member of_length
member_of_length s [] = refl
member_of_length s (x ∷ xs) = go (member_of_length s xs) (eqb (length x) (length s)) refl
  where
    go : member s (of_length (length s) xs) ≡ member s xs → (b : Bool) → eqb (length x) (length s) ≡ b
        → member s (cond b (x ∷ of_length (length s) xs) (of_length (length s) xs)) ≡ same x s || member s xs
    go m true e = rw m
    go m false e = rw (same_length x s (eqb-false _ _ e)) m

past : (tables : List (List (List ℕ))) (n : ℕ) → length tables ≤ n → at_place tables n ≡ []
unfolding at_place
past [] n h = refl
past (t ∷ ts) zero h = absurd (omega arith)
past (t ∷ ts) (suc n) h = past ts n (omega arith)

place : {A : Type 0} (f : A → List (List ℕ)) (ts : List A) (n : ℕ) (d : A) → n < length ts → at_place (map f ts) n ≡ f (get_or ts n d)
unfolding at_place
place f [] n d h = absurd (omega arith)
place f (t ∷ ts) zero d h = refl
place f (t ∷ ts) (suc n) d h = place f ts n d (omega arith)

ranged : (f : ℕ → List (List ℕ)) (a n k : ℕ) → k < n → at_place (map f (range_with_len a n)) k ≡ f (a + k)
unfolding at_place
ranged f a zero k h = absurd (omega arith)
ranged f a (suc n) zero h = let z : a ≡ a + 0 = omega arith in ap f z
ranged f a (suc n) (suc k) h = let z : a + 1 + k ≡ a + suc k = omega arith in ranged f (a + 1) n k (omega arith) ∙ ap f z

-- A text as long as no name is none.
no_length : (p : ℕ → Bool) (s : List ℕ) (xs : List (List ℕ)) → all_of (λ x. p (length x)) xs ≡ true → p (length s) ≡ false → false ≡ member s xs
unfolding member
no_length p s [] h g = refl
no_length p s (x ∷ xs) h g =
    let a = both (p (length x)) _ h in
    let d : same x s ≡ false = same_length x s (λ e. true≢false (sym a.0 ∙ ap p e ∙ g)) in
    rw (d, ← (no_length p s xs a.1 g))

-- The table of one place decides.
pub among : (s : List ℕ) (tables : List (Bor (List (Bor (List ℕ))))) (o : Option (Bor (Bor (List (Bor (List ℕ)))))) {r : Bool} → IsItemAt tables (length s) o
    → MatchOption o (r ≡ false) (λ t. r ≡ list_any (λ u. same u.now s) t.now.now) → r ≡ member s (at_place (map names_of tables) (length s))
unfolding member
among s tables None i m = m ∙ sym (ap (member s) (past (map names_of tables) (length s) (omega (arith, length-map tables names_of, i.3))))
among s tables (Some t) i m = m ∙ any_member s t.now.now ∙ sym (ap (member s) (place names_of tables (length s) t.now i.3.0 ∙ ap names_of (sym i.1)))

-- A table that has at place n the names of n cells, and all of them, decides about a text.
pub decided : (s : List ℕ) (tables : List (List (List ℕ))) (xs : List (List ℕ)) {r : Bool} → r ≡ member s (at_place tables (length s))
    → tables ≡ map (λ n. of_length n xs) (range_with_len 0 (length tables)) → all_of (λ x. nat_lt (length x) (length tables)) xs ≡ true → r ≡ member s xs
unfolding member
decided s tables xs {r} h e a = go (nat_lt (length s) (length tables)) refl
  where
    go : (b : Bool) → nat_lt (length s) (length tables) ≡ b → r ≡ member s xs
    go true l =
        let z : 0 + length s ≡ length s = omega arith in
        let q : at_place tables (length s) ≡ of_length (length s) xs = ap (λ t. at_place t (length s)) e ∙ rw z at (ranged (λ n. of_length n xs) 0 (length tables) (length s) (ltb-true _ _ l)) in
        h ∙ ap (member s) q ∙ member_of_length s xs
    go false l = h ∙ ap (member s) (past tables (length s) (ltb-false _ _ l)) ∙ no_length (λ n. nat_lt n (length tables)) s xs a l
