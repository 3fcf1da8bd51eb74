-- The fields of a call as they are read, one behind the other.
use Rattle.std.proofs.Common.{◌≡◌, ℕ, min, ap, ◌∙◌, List, length, take, replicate, arith}
use mathlib.Core.Path.{fun_ext}
use lib.ListN.{length-replicate}
use borrow.Author.Tests.{ne_eqb}
use Rattle.reading.proofs.Test.{by_order}
use Rattle.scope.specs.Entries.{ParsingScope}
use Rattle.cases.specs.Laid.{laid, Lays}
use Rattle.cases.specs.Fields.{decimal_at, decimal_end, cells_at, cells_end}
use Rattle.cases.specs.Entries.{names_at, rows_at, entries_end}
use Rattle.cases.specs.After.{call_of, long_name, max_rows, max_cells, entry_count, first_entry, call_at, call_end}
use Rattle.cases.proofs.LaidLaws.{taken}

-- Any number that is no other call's adds a parsed name.
numbered_at : (n : ℕ) (name cells : List ℕ) (rows : List (List ℕ)) (s : ParsingScope) → call_of (min n 4) name cells rows s ≡ call_of n name cells rows s
unfolding call_of
numbered_at n name cells rows s = by_order n 4
    (λ h. let e : min n 4 ≡ n = omega arith in rw e)
    (λ h. let e : min n 4 ≡ 4 = omega arith in rw (e, ne_eqb n 0 (λ g. omega arith), ne_eqb n 1 (λ g. omega arith), ne_eqb n 2 (λ g. omega arith), ne_eqb n 3 (λ g. omega arith)))

numbered : (n : ℕ) → call_of (min n 4) ≡ call_of n
numbered n = fun_ext (λ name. fun_ext (λ cells. fun_ext (λ rows. fun_ext (λ s. numbered_at n name cells rows s))))

-- Each step reads on in the line that the one before it left.
module _ (l : List ℕ) (i : ℕ) {d p : ℕ} {l₁ : List ℕ} (number : (d ≡ decimal_at l i) × (l₁ ≡ l) × (p ≡ decimal_end l i))
    {name name' : List ℕ} {e q : ℕ} {l₂ : List ℕ} (named : Lays name 0 (cells_at l₁ p) e name' × (l₂ ≡ l₁) × (q ≡ cells_end l₁ p))
    {x y : ℕ} {l₃ : List ℕ} (entries : (x ≡ decimal_at l₂ q) × (l₃ ≡ l₂) × (y ≡ decimal_end l₂ q)) {n : ℕ} (least : n ≡ min x max_rows) where
  same : l₃ ≡ l
  same = entries.1 ∙ named.1 ∙ number.1

  behind : q ≡ cells_end l (decimal_end l i)
  behind = named.2 ∙ rw (number.1, number.2)

  counted : n ≡ entry_count l i
  counted = least ∙ ap (λ m. min m max_rows) (entries.0 ∙ rw (named.1, number.1, behind))

  first : y ≡ first_entry l i
  first = entries.2 ∙ rw (named.1, number.1, behind)

  -- The call that is made, and where the next begins.
  module _ (rows : List (List ℕ)) {rows' : List (List ℕ)} (cells : List ℕ) {cells' : List ℕ} {next : ℕ} (listed : (rows' ≡ rows_at (length rows) l₃ y (length cells) 0) × (cells' ≡ laid 0 (names_at (length rows) l₃ y) cells) × (next ≡ entries_end (length rows) l₃ y))
      (lent : length rows ≡ n) where
    pub call_next : next ≡ call_end l i
    unfolding call_end
    call_next = listed.2 ∙ rw (lent, same, counted, first)

    pub call_read : length name ≡ long_name → cells ≡ replicate max_cells 0 → {c : ℕ} → c ≡ min d 4 → call_of c (take e name') cells' rows' ≡ call_at l i
    unfolding call_at
    call_read long zeros {c} k =
        let a : take e name' ≡ take long_name (cells_at l (decimal_end l i)) = taken named.0 ∙ rw (long, number.1, number.2) in
        let b : cells' ≡ laid 0 (names_at (entry_count l i) l (first_entry l i)) (replicate max_cells 0) = listed.1 ∙ rw (lent, same, counted, first, zeros) in
        let o : length cells ≡ max_cells = ap length zeros ∙ length-replicate {A = ℕ} max_cells 0 in
        let t : rows' ≡ rows_at (entry_count l i) l (first_entry l i) max_cells 0 = listed.0 ∙ rw (lent, same, counted, first, o) in
        rw (k, numbered d, number.0, a, b, t)
