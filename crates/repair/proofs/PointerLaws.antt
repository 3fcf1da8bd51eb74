-- The search for a match goes on where the last one stopped: positions rise in the old rows as they do in the fresh items, so one index into the old rows moves forward only.
use Rattle.std.specs.Prelude.{None, Some}
use mathlib.Core.Path.{◌≡◌, refl, sym, ap, ◌∙◌}
use mathlib.Core.Bool.{Bool, true, false, ◌&&◌}
use mathlib.Core.List.{List, [], ◌∷◌, map}
use Prim.Native.Nat.{ℕ, zero, suc, ◌+◌, ◌≤◌, ◌<◌}
use native.Mathlib.Omega.{arith}
use native.Mathlib.Numerals.{add-one}
use lib.Dec.{leb, eqb}
use lib.ListN.{length, get_or, drop, length-drop}
use lib.Seq.{drop-cons, get_or-drop}
use borrow.Author.Tests.{le-leb, eq-eqb, leb-true, eqb-true}
use Rattle.reading.proofs.Test.{both}
use Rattle.lexer.specs.Flags.{Flags}
use Rattle.runs.specs.Item.{Item}
use Rattle.runs.specs.Edit.{Edit, moved, moved_item}
use Rattle.runs.specs.Repair.{same_flags, is_match, old_rest, followed}
use Rattle.runs.specs.Record.{Record, item_of, bit_flags, position_at, flags_at, length_at}
use Rattle.repair.specs.Match.{place_at, Passed}
use Rattle.runs.specs.Request.{rows_fit, first_fits, record_fits}
use Rattle.repair.proofs.FittingLaws.{followed_by, first_place, first-behind, record_first}

-- Positions rise from row to row, up to the last row, which may stand where the one before it does.
pub record Rising (rows : List (List ℕ)) : Type 0 where
  pub rise : (i k : ℕ) → i < k → suc k < length rows → place_at rows i < place_at rows k

rows_above : (n m at p : ℕ) (rs : List (List ℕ)) → rows_fit n m at p rs ≡ true → (k : ℕ) → suc k < length rs → p < place_at rs k
rows_above n m at p [] h k l = absurd (omega arith)
rows_above n m at p (r ∷ []) h k l = absurd (omega arith)
rows_above n m at p (r ∷ s ∷ rs) h zero l = (followed_by n m at p r s rs h).0
rows_above n m at p (r ∷ s ∷ rs) h (suc k) l =
    let f = followed_by n m at p r s rs h in
    omega (arith, f.0, rows_above n m (at + get_or r length_at 0) (get_or r position_at 0) (s ∷ rs) f.1 k (omega arith))

rows_rise : (n m at p : ℕ) (rs : List (List ℕ)) → rows_fit n m at p rs ≡ true → (i k : ℕ) → i < k → suc k < length rs → place_at rs i < place_at rs k
rows_rise n m at p [] h i k o l = absurd (omega arith)
rows_rise n m at p (r ∷ []) h i k o l = absurd (omega arith)
rows_rise n m at p (r ∷ s ∷ rs) h i zero o l = absurd (omega arith)
rows_rise n m at p (r ∷ s ∷ rs) h zero (suc k) o l = rows_above n m (at + get_or r length_at 0) (get_or r position_at 0) (s ∷ rs) (followed_by n m at p r s rs h).1 k (omega arith)
rows_rise n m at p (r ∷ s ∷ rs) h (suc i) (suc k) o l = rows_rise n m (at + get_or r length_at 0) (get_or r position_at 0) (s ∷ rs) (followed_by n m at p r s rs h).1 i k (omega arith) (omega arith)

-- The first row stands at 0.
first_rise : (n m : ℕ) (rs : List (List ℕ)) → first_fits n m rs ≡ true → (i k : ℕ) → i < k → suc k < length rs → place_at rs i < place_at rs k
first_rise n m [] h i k o l = absurd (omega arith)
first_rise n m (r ∷ []) h i k o l = absurd (omega arith)
first_rise n m (r ∷ s ∷ rs) h i zero o l = absurd (omega arith)
first_rise n m (r ∷ s ∷ rs) h zero (suc k) o l = omega (arith, (first_place n m r (s ∷ rs) h).place, rows_above n m 0 0 (s ∷ rs) (first-behind n m r s rs h) k (omega arith))
first_rise n m (r ∷ s ∷ rs) h (suc i) (suc k) o l = rows_rise n m 0 0 (s ∷ rs) (first-behind n m r s rs h) i k (omega arith) (omega arith)

pub record_rising : (n : ℕ) (r : Record) → record_fits n r ≡ true → Rising r.rows
record_rising n r h = record { rise = first_rise n (length r.store) r.rows (record_first n r h) }

-- What an item that lies before p, or before the edit's end, does not do.
module _ (e : Edit) (i : Item) (p : ℕ) (f : Flags) where
  unmatched : (e.to ≤ i.position → moved e i.position ≡ p → ⊥) → is_match e i p f ≡ false
  unmatched h = go (is_match e i p f) refl
    where
      go : (b : Bool) → is_match e i p f ≡ b → b ≡ false
      go true m =
          let a = both (leb e.to i.position) (eqb (moved e i.position) p) (both (leb e.to i.position && eqb (moved e i.position) p) (same_flags i.flags f) m).0 in
          absurd (h (leb-true _ _ a.0) (eqb-true _ _ a.1))
      go false m = refl

module _ (e : Edit) (store : List ℕ) (p : ℕ) (f : Flags) where
  passed_by : (r : List ℕ) (rs : List (List ℕ)) → is_match e (item_of store r) p f ≡ false → old_rest e (map (item_of store) (r ∷ rs)) p f ≡ old_rest e (map (item_of store) rs) p f
  unfolding old_rest
  passed_by r [] h = refl
  passed_by r (s ∷ rs) h = rw h

  none_ahead : (rs : List (List ℕ)) → ((k : ℕ) → suc k < length rs → moved e (place_at rs k) ≡ p → ⊥) → old_rest e (map (item_of store) rs) p f ≡ None
  unfolding old_rest
  none_ahead [] h = refl
  none_ahead (r ∷ []) h = refl
  none_ahead (r ∷ s ∷ rs) h = passed_by r (s ∷ rs) (unmatched e (item_of store r) p f (λ _ q. h 0 (omega arith) q)) ∙ none_ahead (s ∷ rs) (λ k l. h (suc k) (omega arith))

module _ {e : Edit} {rows : List (List ℕ)} where
  pub passed_none : {p : ℕ} → Passed e rows 0 p
  passed_none = record { within = omega arith; same = λ store q f l. refl }

  module _ {j p : ℕ} (s : Passed e rows j p) where
    pub passed_on : {q : ℕ} → p ≤ q → Passed e rows j q
    passed_on h = record { within = s.within; same = λ store q f l. s.same store q f (omega arith) }

    -- A row before the edit's end, or whose place is moved to one before p.
    pub passed-row : j < length rows → (e.to ≤ place_at rows j → moved e (place_at rows j) < p) → Passed e rows (j + 1) p
    passed-row h o = record {
      within = omega arith;
      same = λ store q f l.
          s.same store q f l
          ∙ rw (add-one, drop-cons rows j [] h)
          (passed_by e store q f (get_or rows j []) (drop (suc j) rows) (unmatched e (item_of store (get_or rows j [])) q f (λ a b. let z : moved e (place_at rows j) < p = o a in omega arith)));
    }

    -- The last row never matches.
    pub match_end : length rows ≤ j + 1 → (store : List ℕ) (f : Flags) → old_rest e (map (item_of store) rows) p f ≡ None
    match_end h store f = s.same store p f (omega arith) ∙ none_ahead e store p f (drop j rows) (λ k l _. omega (arith, length-drop j rows))

    module _ (up : Rising rows) (h : j + 1 < length rows) (a : e.to ≤ place_at rows j) (store : List ℕ) (f : Flags) where
      -- A row at p or ahead of it that is no match: those behind it lie further ahead.
      pub match_none : p ≤ moved e (place_at rows j) → (moved e (place_at rows j) ≡ p → same_flags (bit_flags (get_or (get_or rows j []) flags_at 0)) f ≡ false) → old_rest e (map (item_of store) rows) p f ≡ None
      match_none l g = s.same store p f (omega arith) ∙ rw (drop-cons rows j [] (omega arith))
          (passed_by e store p f (get_or rows j []) (drop (suc j) rows) miss ∙ none_ahead e store p f (drop (suc j) rows) ahead)
        where
          go : (b : Bool) → eqb (moved e (place_at rows j)) p ≡ b → leb e.to (place_at rows j) && b && same_flags (bit_flags (get_or (get_or rows j []) flags_at 0)) f ≡ false
          go true q = rw (le-leb e.to (place_at rows j) a) (g (eqb-true _ _ q))
          go false q = rw (le-leb e.to (place_at rows j) a)

          miss : is_match e (item_of store (get_or rows j [])) p f ≡ false
          miss = go (eqb (moved e (place_at rows j)) p) refl

          ahead : (k : ℕ) → suc k < length (drop (suc j) rows) → moved e (place_at (drop (suc j) rows) k) ≡ p → ⊥
          ahead k o q =
              let z : get_or (drop (suc j) rows) k [] ≡ get_or rows (suc j + k) [] = get_or-drop (suc j) rows k [] in
              let y : moved e (place_at rows (suc j + k)) ≡ p = sym (ap (λ r. moved e (get_or r position_at 0)) z) ∙ q in
              omega (arith, up.rise j (suc j + k) (omega arith) (omega (arith, length-drop (suc j) rows)), y)

      pub match_here : moved e (place_at rows j) ≡ p → same_flags (bit_flags (get_or (get_or rows j []) flags_at 0)) f ≡ true
          → old_rest e (map (item_of store) rows) p f ≡ Some (map (moved_item e) (map (item_of store) (drop (j + 1) rows)))
      unfolding old_rest
      match_here q g = s.same store p f (omega arith) ∙ rw (add-one, drop-cons rows j [] (omega arith), drop-cons rows (suc j) [] (omega arith), le-leb e.to (place_at rows j) a, eq-eqb (moved e (place_at rows j)) p q, g)

-- The fresh items, before each of which a match is looked for.
module _ (e : Edit) (old : List Item) (i : Item) (is : List Item) (p : ℕ) (f : Flags) where
  pub followed-fresh : old_rest e old p f ≡ None → followed e old (i ∷ is) p f ≡ i ∷ followed e old is i.position i.flags
  unfolding followed
  followed-fresh h = rw h

  pub followed_old : {js : List Item} → old_rest e old p f ≡ Some js → followed e old (i ∷ is) p f ≡ js
  unfolding followed
  followed_old h = rw h
