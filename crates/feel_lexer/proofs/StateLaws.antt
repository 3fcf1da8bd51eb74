-- What is known of the numbers of a lexer; and that a state read from its numbers has them again.
use Rattle.std.specs.Prelude.{None, Some}
use mathlib.Core.Path.{◌≡◌, refl, sym}
use mathlib.Core.Bool.{Bool, true, false, cond}
use mathlib.Core.List.{List, [], ◌∷◌}
use Prim.Native.Nat.{ℕ, ◌≤◌, ◌<◌}
use native.Mathlib.Omega.{arith}
use lib.Dec.{eqb, leb, ltb}
use lib.ListN.{length, get_or}
use borrow.Author.Tests.{eqb-true, leb-true, ltb-true}
use Rattle.reading.specs.Cells.{maybe}
use Rattle.reading.proofs.Test.{both}
use Rattle.runs.proofs.RecordLaws.{bits_again}
use Rattle.feel_lexer.specs.Numbers.{lexer_size, state_at, lexer_numbers, all_flags, is_pending, is_lexer}

pub record Formed (ns : List ℕ) : Type 0 where
  pub sized : length ns ≡ lexer_size
  pub flags : get_or ns 1 0 ≤ all_flags
  pub start : get_or ns 3 0 < 4_294_967_296
  pub pending : is_pending (get_or ns 2 0) (get_or ns 3 0) ≡ true

pub lexer_form : (ns : List ℕ) → is_lexer ns ≡ true → Formed ns
unfolding is_lexer
lexer_form ns h =
    let a = both (eqb (length ns) lexer_size) _ h in
    let b = both (leb (get_or ns 1 0) all_flags) _ a.1 in
    let c = both (ltb (get_or ns 3 0) 4_294_967_296) _ b.1 in
    record { sized = eqb-true _ _ a.0; flags = leb-true _ _ b.0; start = ltb-true _ _ c.0; pending = c.1 }

pub lexer_sized : (ns : List ℕ) → is_lexer ns ≡ true → length ns ≡ lexer_size
lexer_sized ns h = (lexer_form ns h).sized

-- A number that is given with a start token that is due, or 0.
where_due : (b : Bool) (k : ℕ) (g : ℕ → ℕ) → cond b (g k) 0 ≡ maybe (cond b (Some k) None) 0 g
where_due true k g = refl
where_due false k g = refl

-- A refused call puts back the numbers that it read.
pending_again : (p s : ℕ) → is_pending p s ≡ true → (cond (eqb p 1) 1 0 ≡ p) × (cond (eqb p 1) s 0 ≡ s)
pending_again p s h = go (eqb p 0) refl h
  where
    go : (b : Bool) → eqb p 0 ≡ b → cond b (eqb s 0) (eqb p 1) ≡ true → (cond (eqb p 1) 1 0 ≡ p) × (cond (eqb p 1) s 0 ≡ s)
    go true e g = let z : p ≡ 0 = eqb-true p 0 e in let y : s ≡ 0 = eqb-true s 0 g in (rw z, rw (z, y))
    go false e g = (rw g (sym (eqb-true p 1 g)), rw g)

pub numbers_again : (ns : List ℕ) → Formed ns → lexer_numbers (state_at ns) ≡ ns
numbers_again [] f = absurd (omega (arith, f.sized))
numbers_again (a ∷ []) f = absurd (omega (arith, f.sized))
numbers_again (a ∷ b ∷ []) f = absurd (omega (arith, f.sized))
numbers_again (a ∷ b ∷ p ∷ []) f = absurd (omega (arith, f.sized))
numbers_again (a ∷ b ∷ p ∷ s ∷ []) f =
    let g = pending_again p s f.pending in
    rw (bits_again b f.flags, ← where_due (eqb p 1) s (λ k. 1), ← where_due (eqb p 1) s (λ k. k), g.0, g.1)
numbers_again (a ∷ b ∷ p ∷ s ∷ x ∷ ns) f = absurd (omega (arith, f.sized))
