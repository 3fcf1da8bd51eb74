-- What a call checks first.
use mathlib.Core.Path.{◌≡◌, refl, sym, ap}
use mathlib.Core.Bool.{Bool, true, false, cond, ◌&&◌}
use Prim.Native.Nat.{ℕ, ◌+◌, ◌*◌, ◌≤◌, ◌<◌}
use native.Mathlib.Omega.{arith}
use lib.Dec.{leb, ltb}
use borrow.Author.Tests.{lt-ltb, le-ltb, ltb-false, le-leb, leb-true}
use lib.ListN.{length}
use Rattle.reading.proofs.Test.{both}
use Rattle.text.specs.Limits.{max_chars}
use Rattle.text.specs.Refusals.{too_long, short_slice, broken_scope}
use Rattle.scope.specs.Lent.{Lent, is_broken}
use Rattle.runs.specs.Record.{Record}
use Rattle.runs.specs.Calls.{Room, Answer, made, refused, has_room, checked}
use Rattle.runs.specs.Ran.{refusal}

-- The three tests in their order.
abbrev numbered : Bool → Bool → Bool → ℕ
numbered a b c = cond a too_long (cond b broken_scope (cond c 0 short_slice))

abbrev answered : Record → Bool → Bool → Bool → Answer
answered r a b c = cond a (refused too_long) (cond b (refused broken_scope) (cond c (made r) (refused short_slice)))

refuses_by : (r : Record) (a b c : Bool) (m : ℕ) → m ≡ numbered a b c → 0 < m → answered r a b c ≡ refused m
refuses_by r true b c m e h = ap refused (sym e)
refuses_by r false true c m e h = ap refused (sym e)
refuses_by r false false true m e h = absurd (omega arith)
refuses_by r false false false m e h = ap refused (sym e)

passes_by : (a b c : Bool) → 0 ≡ numbered a b c → (a ≡ false) × (b ≡ false) × (c ≡ true)
passes_by true b c e = absurd (omega arith)
passes_by false true c e = absurd (omega arith)
passes_by false false true e = (refl, refl, refl)
passes_by false false false e = absurd (omega arith)

-- Nothing is refused: the text is within the limit, the scope is whole, and there is room.
pub record Passes (l : Lent) (n rows store scratch : ℕ) : Type 0 where
  pub within : n ≤ max_chars
  pub whole : is_broken l ≡ false
  pub rows_long : n + 2 ≤ rows
  pub store_long : n ≤ store
  pub scratch_long : 2 * n ≤ scratch

module _ (l : Lent) (n rows store scratch : ℕ) (e : 0 ≡ refusal l n rows store scratch) where
  pub passes : Passes l n rows store scratch
  passes =
      let t = passes_by (ltb max_chars n) (is_broken l) (leb (n + 2) rows && leb n store && leb (2 * n) scratch) e in
      let u = both (leb (n + 2) rows && leb n store) (leb (2 * n) scratch) t.2 in
      let v = both (leb (n + 2) rows) (leb n store) u.0 in
      record { within = ltb-false max_chars n t.0; whole = t.1; rows_long = leb-true (n + 2) rows v.0; store_long = leb-true n store v.1; scratch_long = leb-true (2 * n) scratch u.1 }

-- The text's length is asked for first.
pub too_long_lem : (l : Lent) (n rows store scratch : ℕ) → max_chars < n → too_long ≡ refusal l n rows store scratch
too_long_lem l n rows store scratch h = rw (lt-ltb max_chars n h)

module _ (l : Lent) (room : Room) (n : ℕ) (r : Record) where
  pub checked_refused : {m : ℕ} → m ≡ refusal l n (length room.rows) (length room.store) (length room.scratch) → 0 < m → checked l room n r ≡ refused m
  checked_refused {m} e h = refuses_by r (ltb max_chars n) (is_broken l) (has_room n room) m e h

  pub checked_made : Passes l n (length room.rows) (length room.store) (length room.scratch) → checked l room n r ≡ made r
  checked_made p =
      rw (le-ltb max_chars n p.within, p.whole, le-leb (n + 2) (length room.rows) p.rows_long, le-leb n (length room.store) p.store_long, le-leb (2 * n) (length room.scratch) p.scratch_long)
