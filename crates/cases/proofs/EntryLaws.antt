-- An entry list goes one entry on, or ends.
use mathlib.Core.Path.{◌≡◌, refl, sym, ap, ◌∙◌}
use mathlib.Core.List.{List, [], ◌∷◌, ◌++◌}
use Prim.Native.Nat.{ℕ, zero, suc, ◌+◌, ◌-◌, ◌≤◌, ◌<◌}
use native.Mathlib.Omega.{arith}
use lib.ListN.{length, set}
use Rattle.cases.specs.Laid.{laid, Lays}
use Rattle.cases.specs.Fields.{decimal_at, decimal_end, cells_at, cells_end}
use Rattle.cases.specs.Entries.{name_at, entry_end, names_at, entries_end, cell, row_at, name_end, rows_at}
use Rattle.cases.proofs.LaidLaws.{Still, still_more, still_none, lays_one, laid_over}

length-rows : (n : ℕ) (l : List ℕ) (i room k : ℕ) → length (rows_at n l i room k) ≡ n
unfolding rows_at
length-rows zero l i room k = refl
length-rows (suc n) l i room k = omega (arith, length-rows n l (entry_end l i) room (name_end l i room k))

row_next : (j : ℕ) (l : List ℕ) (i room k : ℕ) {r : ℕ} → r ≡ name_end l i room k → rows_at (suc j) l i room k ≡ (row_at l i k r ∷ []) ++ rows_at j l (entry_end l i) room r
unfolding rows_at
row_next j l i room k e = rw e

name_next : (j : ℕ) (l : List ℕ) (i : ℕ) → names_at (suc j) l i ≡ name_at l i ++ names_at j l (entry_end l i)
unfolding names_at
name_next j l i = refl

end_next : (j : ℕ) (l : List ℕ) (i : ℕ) → entries_end (suc j) l i ≡ entries_end j l (entry_end l i)
unfolding entries_end
end_next j l i = refl

-- A loop that reads n of `count` entries from `from` on: it stands at i of the line, and k cells of the names are written.
pub record Listing (l : List ℕ) (from count : ℕ) (rows₀ : List (List ℕ)) (cells₀ : List ℕ) (rows : List (List ℕ)) (cells : List ℕ) (n k i : ℕ) : Type 0 where
  pub within : n ≤ count
  pub rowed : Still rows₀ 0 (rows_at count l from (length cells₀) 0) rows n (rows_at (count - n) l i (length cells₀) k)
  pub named : Still cells₀ 0 (names_at count l from) cells k (names_at (count - n) l i)
  pub end : entries_end count l from ≡ entries_end (count - n) l i

listing_more : {l : List ℕ} {from count : ℕ} {rows₀ : List (List ℕ)} {cells₀ : List ℕ} {rows : List (List ℕ)} {cells : List ℕ} {n k i : ℕ} → Listing l from count rows₀ cells₀ rows cells n k i
    → n < count → n < length rows → {row : List ℕ} {r : ℕ} {cells' : List ℕ} → Lays cells k (name_at l i) r cells' → row ≡ row_at l i k r → {e : ℕ} → e ≡ entry_end l i
    → Listing l from count rows₀ cells₀ (set rows n row) cells' (n + 1) r e
listing_more {l} {from} {count} {rows₀} {cells₀} {rows} {cells} {n} {k} {i} b h g {row} {r} {cells'} w s {e} d =
    let j = count - (n + 1) in
    let z : count - n ≡ suc (count - (n + 1)) = omega arith in
    let q : r ≡ name_end l i (length cells₀) k = omega (arith, w.end, b.named.same) in
    let x : rows_at (count - n) l i (length cells₀) k ≡ (row_at l i k r ∷ []) ++ rows_at j l (entry_end l i) (length cells₀) r = ap (λ m. rows_at m l i (length cells₀) k) z ∙ row_next j l i (length cells₀) k q in
    let y : names_at (count - n) l i ≡ name_at l i ++ names_at j l (entry_end l i) = ap (λ m. names_at m l i) z ∙ name_next j l i in
    let t : entries_end (count - n) l i ≡ entries_end j l (entry_end l i) = ap (λ m. entries_end m l i) z ∙ end_next j l i in
    record {
      within = omega arith;
      rowed = rw (d, s) (still_more (rw x at b.rowed) (lays_one rows n (row_at l i k r) g));
      named = rw d (still_more (rw y at b.named) w);
      end = rw d (b.end ∙ t);
    }

module _ {l : List ℕ} {from count : ℕ} {rows₀ : List (List ℕ)} {cells₀ : List ℕ} {rows : List (List ℕ)} {cells : List ℕ} {n k i : ℕ} (b : Listing l from count rows₀ cells₀ rows cells n k i) where
  -- Depth, kind and name are read, and the row is stored.
  pub listing_read : n < count → n < length rows → {d e : ℕ} → (d ≡ decimal_at l i) × (e ≡ decimal_end l i) → {t f : ℕ} → (t ≡ decimal_at l e) × (f ≡ decimal_end l e)
      → {r m : ℕ} {cells' : List ℕ} → Lays cells k (cells_at l f) r cells' × (m ≡ cells_end l f) → {x y : ℕ} → x ≡ cell k → y ≡ cell (r - k)
      → Listing l from count rows₀ cells₀ (set rows n (d ∷ t ∷ x ∷ y ∷ [])) cells' (n + 1) r m
  unfolding name_at entry_end row_at
  listing_read h g p q w u v =
      let e = p.1 in
      let f = q.1 ∙ ap (decimal_end l) e in
      listing_more b h g (rw (← f) w.0) (rw (p.0, q.0, e, u, v)) (w.1 ∙ ap (cells_end l) f)

-- A row was read for each that was lent.
pub listing_end : {l : List ℕ} {from : ℕ} {rows₀ : List (List ℕ)} {cells₀ : List ℕ} {rows : List (List ℕ)} {cells : List ℕ} {n k i : ℕ} → Listing l from (length rows₀) rows₀ cells₀ rows cells n k i
    → length rows₀ ≤ n → (rows ≡ rows_at (length rows₀) l from (length cells₀) 0) × (cells ≡ laid 0 (names_at (length rows₀) l from) cells₀) × (i ≡ entries_end (length rows₀) l from)
unfolding rows_at names_at entries_end
listing_end {l} {from} {rows₀} {cells₀} {rows} {cells} {n} {k} {i} b h =
    let z : length rows₀ - n ≡ 0 = omega arith in
    let e : n ≡ length rows₀ = omega (arith, b.within) in
    (laid_over (length-rows (length rows₀) l from (length cells₀) 0) (still_none (rw z at b.rowed)), (still_none (rw z at b.named)).left, sym (rw z at b.end))
