-- What is copied from one lent slice to another, as items are from rows and rows from items: all, or nothing.
use Rattle.std.specs.Prelude.{◌≡◌, cond, List, map, ℕ, ltb, length, replicate, Result, Ok, Err}
use Rattle.reading.specs.Slices.{front}
use Rattle.text.specs.Refusals.{short_slice}
use Rattle.text.specs.declared.refusal.Refusal.{Refusal}
use Rattle.runs.specs.Ran.{number}
use Rattle.records.specs.declared.stored.Stored.{Stored}
use Rattle.records.specs.declared.page.Page.{Page}
use Rattle.records.specs.Stored.{blank, stored_of}

-- 01: 9 for a lent slice too short. So many are copied to so many places; 0 is none.
abbrev pub refusal : ℕ → ℕ → ℕ
refusal n places = cond (ltb places n) short_slice 0

-- What f makes of all xs stands in the front of ys and the rest stays; too short a list stays as it is.
abbrev pub copied : {A B : Type 0} → (A → B) → List A → List B → List B
copied f xs ys = cond (ltb (length ys) (length xs)) ys (front (map f xs) ys)

-- A call that copies all xs to ys answers r and leaves zs.
pub record Copies {A B : Type 0} (f : A → B) (xs : List A) (ys : List B) (r : Result (Unit {0}) Refusal) (zs : List B) : Type 0 where
  pub answer : number r ≡ refusal (length xs) (length ys)
  pub left : zs ≡ copied f xs ys

-- The same where values are made by a conversion, of which a relation is known: where it is a function, that function is copied by.
pub record CopiesBy {A B : Type 0} (R : A → B → Type 0) (xs : List A) (ys : List B) (r : Result (Unit {0}) Refusal) (zs : List B) : Type 0 where
  pub copies : (f : A → B) → ((x : A) (y : B) → R x y → y ≡ f x) → Copies f xs ys r zs

-- A page before anything is read into it.
abbrev pub blank_page : List Stored
blank_page = replicate 32 blank

-- A page of some rows has their items in the front of a blank one; there is none of too many rows.
abbrev pub Paged : List (List ℕ) → Result Page Refusal → Type 0
Paged rows (Ok p) = Copies stored_of rows blank_page (Ok tt) p.items
Paged rows (Err e) = Copies stored_of rows blank_page (Err e) blank_page
