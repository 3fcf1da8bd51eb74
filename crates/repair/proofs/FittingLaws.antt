-- What is known of the rows of an accepted record: they are items, and positions bound their number and their value cells.
use mathlib.Core.Path.{◌≡◌, refl}
use mathlib.Core.Bool.{Bool, true, false, cond, ◌&&◌, false≢true}
use mathlib.Core.List.{List, [], ◌∷◌}
use Prim.Native.Nat.{ℕ, zero, suc, ◌+◌, ◌≤◌, ◌<◌}
use native.Mathlib.Omega.{arith}
use lib.Dec.{leb, ltb, eqb}
use lib.ListN.{length, get_or, drop}
use borrow.Author.Tests.{leb-true, ltb-true, eqb-true}
use Rattle.reading.proofs.Test.{both}
use Rattle.runs.specs.Record.{Record, refused_at, number_at, position_at, reach_at, start_at, length_at}
use Rattle.runs.specs.Request.{is_row, row_fits, rows_fit, first_fits, record_fits}
use Rattle.lexer.specs.Read.{is_last}

abbrev ends : List ℕ → Bool
ends r = is_last (eqb (get_or r refused_at 0) 1) (get_or r number_at 0)

-- What a row that fits is known to be.
pub record Fitting (n m at p : ℕ) (r : List ℕ) : Type 0 where
  pub row : is_row r ≡ true
  pub in_text : get_or r position_at 0 ≤ n
  pub looked : get_or r position_at 0 ≤ get_or r reach_at 0
  pub near : get_or r reach_at 0 ≤ n + 12
  pub start : get_or r start_at 0 ≡ at
  pub in_store : at + get_or r length_at 0 ≤ m
  pub behind : p + get_or r length_at 0 ≤ get_or r position_at 0

pub fitting : (n m at p : ℕ) (r : List ℕ) → row_fits n m at p r ≡ true → Fitting n m at p r
fitting n m at p r h =
    let a = is_row r && leb (get_or r position_at 0) n in
    let b = a && leb (get_or r position_at 0) (get_or r reach_at 0) in
    let c = b && leb (get_or r reach_at 0) (n + 12) in
    let d = c && eqb (get_or r start_at 0) at in
    let u = both (d && leb (at + get_or r length_at 0) m) (leb (p + get_or r length_at 0) (get_or r position_at 0)) h in
    let v = both d (leb (at + get_or r length_at 0) m) u.0 in
    let w = both c (eqb (get_or r start_at 0) at) v.0 in
    let x = both b (leb (get_or r reach_at 0) (n + 12)) w.0 in
    let y = both a (leb (get_or r position_at 0) (get_or r reach_at 0)) x.0 in
    let z = both (is_row r) (leb (get_or r position_at 0) n) y.0 in
    record {
      row = z.0;
      in_text = leb-true _ _ z.1;
      looked = leb-true _ _ y.1;
      near = leb-true _ _ x.1;
      start = eqb-true _ _ w.1;
      in_store = leb-true _ _ v.1;
      behind = leb-true _ _ u.1;
    }

-- Wherever the row before it is.
alone : {n m at p : ℕ} {r : List ℕ} → Fitting n m at p r → Fitting n m (get_or r start_at 0) 0 r
alone f = record { row = f.row; in_text = f.in_text; looked = f.looked; near = f.near; start = refl; in_store = omega (arith, f.start, f.in_store); behind = omega (arith, f.behind) }

-- Rows that follow an item come behind no last one.
more_follow : (b : Bool) {x : Bool} → cond b false x ≡ true → x ≡ true
more_follow true e = absurd (false≢true e)
more_follow false e = e

module _ (n m at p : ℕ) (r : List ℕ) where
  pub first_of : (rs : List (List ℕ)) → rows_fit n m at p (r ∷ rs) ≡ true → Fitting n m at p r
  unfolding rows_fit
  first_of rs h = fitting n m at p r (both (row_fits n m at p r) _ h).0

  pub followed_by : (s : List ℕ) (rs : List (List ℕ)) → rows_fit n m at p (r ∷ s ∷ rs) ≡ true → (p < get_or r position_at 0) × (rows_fit n m (at + get_or r length_at 0) (get_or r position_at 0) (s ∷ rs) ≡ true)
  unfolding rows_fit
  followed_by s rs h =
      let b = both (ltb p (get_or r position_at 0)) _ (more_follow (ends r) (both (row_fits n m at p r) _ h).1) in
      (ltb-true _ _ b.0, b.1)

-- The first row stands at 0 and has no value.
pub record First (n m : ℕ) (r : List ℕ) : Type 0 where
  pub fits : Fitting n m 0 0 r
  pub place : get_or r position_at 0 ≡ 0
  pub reach : get_or r reach_at 0 ≡ 0

module _ (n m : ℕ) (r : List ℕ) where
  pub first_place : (rs : List (List ℕ)) → first_fits n m (r ∷ rs) ≡ true → First n m r
  first_place rs h =
      let a = row_fits n m 0 0 r && eqb (get_or r position_at 0) 0 in
      let b = both a (eqb (get_or r reach_at 0) 0) (both (a && eqb (get_or r reach_at 0) 0) _ h).0 in
      let c = both (row_fits n m 0 0 r) (eqb (get_or r position_at 0) 0) b.0 in
      record { fits = fitting n m 0 0 r c.0; place = eqb-true _ _ c.1; reach = eqb-true _ _ b.1 }

  pub first-behind : (s : List ℕ) (rs : List (List ℕ)) → first_fits n m (r ∷ s ∷ rs) ≡ true → rows_fit n m 0 0 (s ∷ rs) ≡ true
  first-behind s rs h = more_follow (ends r) (both (row_fits n m 0 0 r && eqb (get_or r position_at 0) 0 && eqb (get_or r reach_at 0) 0) _ h).1

pub record_first : (n : ℕ) (r : Record) → record_fits n r ≡ true → first_fits n (length r.store) r.rows ≡ true
record_first n r h = (both (leb (length r.rows) (n + 2)) _ h).1

-- The rows behind the one at i fit, from where that one ends.
rows_from_lem : (n m at p : ℕ) (rs : List (List ℕ)) → rows_fit n m at p rs ≡ true → (i : ℕ) → suc i < length rs
    → rows_fit n m (get_or (get_or rs i []) start_at 0 + get_or (get_or rs i []) length_at 0) (get_or (get_or rs i []) position_at 0) (drop (suc i) rs) ≡ true
rows_from_lem n m at p [] h i l = absurd (omega arith)
rows_from_lem n m at p (r ∷ []) h i l = absurd (omega arith)
rows_from_lem n m at p (r ∷ s ∷ rs) h zero l = rw (first_of n m at p r (s ∷ rs) h).start (followed_by n m at p r s rs h).1
rows_from_lem n m at p (r ∷ s ∷ rs) h (suc i) l = rows_from_lem n m (at + get_or r length_at 0) (get_or r position_at 0) (s ∷ rs) (followed_by n m at p r s rs h).1 i (omega arith)

first_from : (n m : ℕ) (rs : List (List ℕ)) → first_fits n m rs ≡ true → (i : ℕ) → suc i < length rs
    → rows_fit n m (get_or (get_or rs i []) start_at 0 + get_or (get_or rs i []) length_at 0) (get_or (get_or rs i []) position_at 0) (drop (suc i) rs) ≡ true
first_from n m [] h i l = absurd (omega arith)
first_from n m (r ∷ []) h i l = absurd (omega arith)
first_from n m (r ∷ s ∷ rs) h zero l =
    let f = first_place n m r (s ∷ rs) h in
    let z : get_or r length_at 0 ≡ 0 = omega (arith, f.fits.behind, f.place) in
    rw (f.fits.start, z, f.place) (first-behind n m r s rs h)
first_from n m (r ∷ s ∷ rs) h (suc i) l = rows_from_lem n m 0 0 (s ∷ rs) (first-behind n m r s rs h) i (omega arith)

pub record_from : (n : ℕ) (r : Record) → record_fits n r ≡ true → (i : ℕ) → suc i < length r.rows
    → let row = get_or r.rows i [] in rows_fit n (length r.store) (get_or row start_at 0 + get_or row length_at 0) (get_or row position_at 0) (drop (suc i) r.rows) ≡ true
record_from n r h = first_from n (length r.store) r.rows (record_first n r h)

-- The value cells of some rows.
abbrev pub cells_in : List (List ℕ) → ℕ
cells_in [] = 0
cells_in (r ∷ rs) = get_or r length_at 0 + cells_in rs

-- No more rows and cells than positions allow.
pub record Bounded (n m at p : ℕ) (rs : List (List ℕ)) : Type 0 where
  pub count : p + length rs ≤ n + 1
  pub cells : p + cells_in rs ≤ n

pub bounded : (n m at p : ℕ) (rs : List (List ℕ)) → rows_fit n m at p rs ≡ true → Bounded n m at p rs
unfolding rows_fit
bounded n m at p [] h = absurd (false≢true h)
bounded n m at p (r ∷ []) h =
    let f = first_of n m at p r [] h in
    record { count = omega (arith, f.behind, f.in_text); cells = omega (arith, f.behind, f.in_text) }
bounded n m at p (r ∷ s ∷ rs) h =
    let f = first_of n m at p r (s ∷ rs) h in
    let g = followed_by n m at p r s rs h in
    let b = bounded n m (at + get_or r length_at 0) (get_or r position_at 0) (s ∷ rs) g.1 in
    record { count = omega (arith, g.0, b.count); cells = omega (arith, f.behind, b.cells) }

module _ (n m : ℕ) where
  -- Each row fits where it starts.
  fits-at : (at p : ℕ) (rs : List (List ℕ)) → rows_fit n m at p rs ≡ true → (i : ℕ) → i < length rs → Fitting n m (get_or (get_or rs i []) start_at 0) 0 (get_or rs i [])
  fits-at at p [] h i l = absurd (omega arith)
  fits-at at p (r ∷ rs) h zero l = alone (first_of n m at p r rs h)
  fits-at at p (r ∷ []) h (suc i) l = absurd (omega arith)
  fits-at at p (r ∷ s ∷ rs) h (suc i) l = fits-at (at + get_or r length_at 0) (get_or r position_at 0) (s ∷ rs) (followed_by n m at p r s rs h).1 i (omega arith)

-- The same of a whole record.
module _ (n : ℕ) (r : Record) (fits : record_fits n r ≡ true) where
  pub record_row : (i : ℕ) → i < length r.rows → Fitting n (length r.store) (get_or (get_or r.rows i []) start_at 0) 0 (get_or r.rows i [])
  record_row i l = go r.rows (record_first n r fits) i l
    where
      go : (rs : List (List ℕ)) → first_fits n (length r.store) rs ≡ true → (i : ℕ) → i < length rs → Fitting n (length r.store) (get_or (get_or rs i []) start_at 0) 0 (get_or rs i [])
      go [] h i l = absurd (omega arith)
      go (s ∷ rs) h zero l = alone (first_place n (length r.store) s rs h).fits
      go (s ∷ []) h (suc i) l = absurd (omega arith)
      go (s ∷ t ∷ rs) h (suc i) l = fits-at n (length r.store) 0 0 (t ∷ rs) (first-behind n (length r.store) s t rs h) i (omega arith)
