-- Repaired items are the items of a run of the new text, for any sound reader: locality gives the kept ones, induction the fresh ones, translation the old rest.
use Rattle.std.specs.Prelude.{Option, None, Some}
use mathlib.Core.Path.{◌≡◌, refl, sym, ap, ◌∙◌}
use mathlib.Core.Bool.{Bool, true, false, cond, beq}
use mathlib.Core.List.{List, [], ◌∷◌, ◌++◌, map, append_assoc}
use Prim.Native.Nat.{ℕ, ◌+◌, ◌-◌, ◌≤◌, ◌<◌}
use native.Mathlib.Omega.{arith}
use lib.Dec.{leb-zero}
use borrow.Author.Tests.{leb-true, eqb-true}
use lib.ListN.{length, take, drop, length-append, length-drop}
use lib.Seq.{drop-append-add, drop-drop, length-take-le}
use Rattle.reading.specs.Look.{cell_at, Seen}
use Rattle.reading.specs.Cells.{maybe}
use Rattle.reading.proofs.Test.{by_test, both}
use Rattle.reading.proofs.Reading.{locality}
use Rattle.reading.proofs.Cell.{cell-drop, cell-take, cell-append}
use Rattle.text.specs.Limits.{max_chars}
use Rattle.lexer.specs.Flags.{Flags}
use Rattle.lexer.specs.Read.{Read, Outcome}
use Rattle.runs.specs.Item.{Item, item, ends_run}
use Rattle.runs.specs.Run.{Reader, placed, seen, item_at, items, start_item, run_items}
use Rattle.runs.specs.Edit.{Edit, edited, moved, moved_item}
use Rattle.runs.specs.Repair.{same_flags, is_match, old_rest, followed, fresh_items, last_kept, repaired_from, repair_items}
use Rattle.runs.proofs.RunLaws.{Runs, last, more, same-run, last_is, more_is, IsSound, complete}

-- What a match says.
same_bool : (b c : Bool) → beq b c ≡ true → b ≡ c
same_bool true true h = refl
same_bool true false h = cc
same_bool false true h = cc
same_bool false false h = refl

pub same_flags_lem : (f g : Flags) → same_flags f g ≡ true → f ≡ g
same_flags_lem f g h =
    let d = both _ _ h in
    let c = both _ _ d.0 in
    let b = both _ _ c.0 in
    let a = both _ _ b.0 in
    λ i. record {
      unary_tests = same_bool f.unary_tests g.unary_tests a.0 i;
      between = same_bool f.between g.between a.1 i;
      type_name = same_bool f.type_name g.type_name b.1 i;
      till_in = same_bool f.till_in g.till_in c.1 i;
      after_dot = same_bool f.after_dot g.after_dot d.1 i;
    }

pub matched : (e : Edit) (i : Item) (p : ℕ) (f : Flags) → is_match e i p f ≡ true → (e.to ≤ i.position) × (moved e i.position ≡ p) × (i.flags ≡ f)
matched e i p f h =
    let b = both _ _ h in
    let a = both _ _ b.0 in
    (leb-true _ _ a.0, eqb-true _ _ a.1, same_flags_lem _ _ b.1)

same_item : (r : Read) (f : Flags) {p p' q q' : ℕ} → p ≡ p' → q ≡ q' → item r p f q ≡ item r p' f q'
same_item r f g h = rw (g, h)

-- Translation: behind the edit a token call gives the same, moved.
placed-moved : (e : Edit) (q : ℕ) → e.to ≤ q → (s : Seen Outcome) → placed (moved e q) s ≡ moved_item e (placed q s)
placed-moved e q h s =
    same_item s.answer.read s.answer.flags (omega arith) (omega arith)

module _ (tok : Reader) (old new : List ℕ) (e : Edit) (back : (q : ℕ) → e.to ≤ q → drop (moved e q) new ≡ drop q old) where
  item-moved : (q : ℕ) (f : Flags) → e.to ≤ q → item_at tok new (moved e q) f ≡ moved_item e (item_at tok old q f)
  item-moved q f h = ap (λ t. placed (moved e q) (seen tok t f)) (back q h) ∙ placed-moved e q h (seen tok (drop q old) f)

  run_moved : {q : ℕ} {f : Flags} {is : List Item} → Runs tok old q f is → e.to ≤ q → Runs tok new (moved e q) f (map (moved_item e) is)
  run_moved {q} {f} (last h) g = last_is (item-moved q f g) h
  run_moved {q} {f} (more h r) g = more_is (item-moved q f g) h (run_moved r (omega arith))

module _ (tok : Reader) (old new : List ℕ) (e : Edit)
    (front : (i : ℕ) → i < e.from → cell_at old i ≡ cell_at new i)
    (back : (q : ℕ) → e.to ≤ q → drop (moved e q) new ≡ drop q old) where
  -- Locality: an item that looked no further than the edit's start stays.
  item-kept : (p : ℕ) (f : Flags) → (item_at tok old p f).reach ≤ e.from → item_at tok new p f ≡ item_at tok old p f
  item-kept p f h = ap (placed p) (sym (locality (drop p old) (drop p new) 0 (tok f) (λ i g. cell-drop p old i ∙ front (p + i) (omega arith) ∙ sym (cell-drop p new i))))

  -- What is found behind a match is the rest of the new run.
  abbrev Rest : ℕ → Flags → Option (List Item) → Type 0
  Rest p f None = Unit
  Rest p f (Some js) = Runs tok new p f js

  rest_at : {is : List Item} (i : Item) (p : ℕ) (f : Flags) → Runs tok old i.position i.flags is → is_match e i p f ≡ true → Runs tok new p f (map (moved_item e) is)
  rest_at i p f r m = let k = matched e i p f m in rw (k.1, k.2) at (run_moved tok old new e back r k.0)

  rest-found : {is : List Item} (i : Item) (p : ℕ) (f : Flags) → Runs tok old i.position i.flags is → Rest p f (old_rest e (i ∷ is) p f)
  unfolding old_rest
  rest-found i p f (last h) = by_test (Rest p f) (is_match e i p f) (rest_at i p f (last h)) (λ _. tt)
  rest-found i p f (more h r) = by_test (Rest p f) (is_match e i p f) (rest_at i p f (more h r)) (λ _. rest-found (item_at tok old i.position i.flags) p f r)

  module _ (olds : List Item) (rest : (p : ℕ) (f : Flags) → Rest p f (old_rest e olds p f)) where
    rest_or : (p : ℕ) (f : Flags) (o : Option (List Item)) {is : List Item} → Rest p f o → Runs tok new p f is → Runs tok new p f (maybe o is (λ js. js))
    rest_or p f None g r = r
    rest_or p f (Some js) g r = g

    run-followed : {p : ℕ} {f : Flags} {is : List Item} → Runs tok new p f is → Runs tok new p f (followed e olds is p f)
    unfolding followed
    run-followed {p} {f} (last h) = rest_or p f (old_rest e olds p f) (rest p f) (last h)
    run-followed {p} {f} (more h r) = rest_or p f (old_rest e olds p f) (rest p f) (more h (run-followed r))

    module _ (part : List ℕ) (whole : (f : Flags) → Runs tok part 0 f (items tok (length part + 1) part 0 f)) where
      -- The part read afresh stands behind an edit, too: one that puts all before it.
      run-fresh : (p : ℕ) (f : Flags) → part ≡ drop p new → Runs tok new p f (followed e olds (fresh_items tok part p f) p f)
      run-fresh p f h = run-followed (rw here at (run_moved tok part new put there (whole f) (omega arith)))
        where
          put : Edit
          put = record { from = 0; to = 0; size = p }

          here : moved put 0 ≡ p
          here = omega arith

          there : (q : ℕ) → 0 ≤ q → drop (moved put q) new ≡ drop q part
          there q l =
              let sum : moved put q ≡ p + q = omega arith in
              ap (λ x. drop x new) sum ∙ sym (drop-drop q p new) ∙ ap (drop q) (sym h)

      run-kept : {p : ℕ} {f : Flags} {is : List Item} → Runs tok old p f is → part ≡ drop (last_kept e is p) new → Runs tok new p f (repaired_from tok e olds part is p f)
      unfolding repaired_from
      run-kept {p} {f} (last h) q = by_test (Runs tok new p f) _ (λ g. last_is (item-kept p f (leb-true _ _ g)) h) (λ g. run-fresh p f (rw g at q))
      run-kept {p} {f} (more h r) q = by_test (Runs tok new p f) _ (λ g. more_is (item-kept p f (leb-true _ _ g)) h (run-kept r (rw g at q))) (λ g. run-fresh p f (rw g at q))

abbrev change : List ℕ → ℕ → ℕ → Edit
change put a b = record { from = a; to = b; size = length put }

module _ (old put : List ℕ) (a b : ℕ) (ordered : a ≤ b) (within : b ≤ length old) where
  cells-before : (i : ℕ) → i < a → cell_at old i ≡ cell_at (edited old a b put) i
  cells-before i l =
      cell-take a old i l
      ∙ sym (cell-append (take a old) (put ++ drop b old) i (omega (arith, length-take-le a old (omega arith))))
      ∙ rw append_assoc

  text_behind : (q : ℕ) → b ≤ q → drop (moved (change put a b) q) (edited old a b put) ≡ drop q old
  text_behind q l =
      let here : moved (change put a b) q ≡ length (take a old ++ put) + (q - b) = omega (arith, length-append (take a old) put, length-take-le a old (omega arith)) in
      let there : b + (q - b) ≡ q = omega arith in
      ap (λ n. drop n (edited old a b put)) here ∙ drop-append-add (take a old ++ put) (drop b old) (q - b) ∙ drop-drop (q - b) b old ∙ ap (λ n. drop n old) there

  pub edited-length : length (edited old a b put) ≡ moved (change put a b) (length old)
  edited-length = omega (arith, length-append (take a old ++ put) (drop b old), length-append (take a old) put, length-take-le a old (omega arith), length-drop b old)

  -- For every reader that is sound: the repaired items are those of a run of the new text.
  module _ (tok : Reader) (sound : IsSound tok) (k : ℕ) (f : Flags) (limit : length old ≤ max_chars) (limit' : length (edited old a b put) ≤ max_chars) where
    pub items-repaired : let new = edited old a b put in
        repair_items tok (change put a b) (run_items tok k f old) (drop (last_kept (change put a b) (run_items tok k f old) 0) new) ≡ run_items tok k f new
    unfolding repaired_from
    items-repaired = go (ends_run (start_item k f))
      where
        new : List ℕ
        new = edited old a b put

        go : (c : Bool) → let was = start_item k f ∷ cond c [] (items tok (length old + 1) old 0 f) in
            repair_items tok (change put a b) was (drop (last_kept (change put a b) was 0) new) ≡ start_item k f ∷ cond c [] (items tok (length new + 1) new 0 f)
        go true = refl
        go false =
            let was = complete tok sound old limit 0 f in
            ap (λ is. start_item k f ∷ is)
            (same-run
            (run-kept tok old new (change put a b) cells-before text_behind _ (λ p g. rest-found tok old new (change put a b) cells-before text_behind (start_item k f) p g was) _
            (complete tok sound _ (omega (arith, length-drop (last_kept (change put a b) (start_item k f ∷ items tok (length old + 1) old 0 f) 0) new)) 0) was (rw (leb-zero a)))
            (complete tok sound new limit' 0 f))
