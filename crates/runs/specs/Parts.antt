-- The parts of a repaired record, as 01 tells them: kept items, fresh ones to the first match or the run's end, and the old ones behind a match.
use Rattle.std.specs.Prelude.{◌≡◌, cond, List, [], ◌∷◌, ◌++◌, map, ℕ, suc, ◌≤◌, ◌<◌, leb, length, take, drop}
use Rattle.runs.specs.Item.{Item}
use Rattle.runs.specs.Run.{Reader}
use Rattle.runs.specs.Edit.{Edit, moved, moved_item}
use Rattle.runs.specs.Repair.{fresh_items}

-- 01: kept are the items before the first with reach over a.
abbrev pub kept : Edit → List Item → List Item
kept e [] = []
kept e (i ∷ is) = cond (leb i.reach e.from) (i ∷ kept e is) []

-- The item at n of some, which is not their last.
pub record Inner (is : List Item) (n : ℕ) (i : Item) : Type 0 where
  pub next : Item
  pub rest : List Item
  pub here : drop n is ≡ i ∷ next ∷ rest

-- 01: a match is the last kept or a fresh item (`read`) whose position and flags are those of an old item at b or more, moved, neither being its record's last.
pub record Match (e : Edit) (old read : List Item) (j c : ℕ) : Type 0 where
  pub was : Item
  pub is : Item
  pub old_at : Inner old j was
  pub read_at : Inner read c is
  pub behind : e.to ≤ was.position
  pub position : is.position ≡ moved e was.position
  pub flags : is.flags ≡ was.flags

-- Where not all are kept, items are read afresh from the state after the last kept one.
pub record Afresh (tok : Reader) (e : Edit) (old : List Item) (part : List ℕ) (last : Item) (fresh : List Item) : Type 0 where
  pub not_all : length (kept e old) < length old
  pub before : List Item
  pub ends : kept e old ≡ before ++ (last ∷ [])
  pub read : fresh ≡ fresh_items tok part last.position last.flags

-- The items `is` of a repaired record: if all are kept, nothing follows; with no match all fresh ones follow;
-- else those up to the first match, and the old items behind the one that it matches, moved.
pub data ThreeParts (tok : Reader) (e : Edit) (old : List Item) (part : List ℕ) (is : List Item) : Type 0 where
  all_kept : kept e old ≡ old → is ≡ old → ThreeParts tok e old part is
  no_match : (last : Item) (fresh : List Item) → Afresh tok e old part last fresh
      → ((j c : ℕ) → Match e old (last ∷ fresh) j c → ⊥)
      → is ≡ kept e old ++ fresh → ThreeParts tok e old part is
  first_match : (last : Item) (fresh : List Item) → Afresh tok e old part last fresh
      → (j c : ℕ) → Match e old (last ∷ fresh) j c
      → ((k d : ℕ) → Match e old (last ∷ fresh) k d → c ≤ d) → ((k : ℕ) → Match e old (last ∷ fresh) k c → j ≤ k)
      → is ≡ kept e old ++ (take c fresh ++ map (moved_item e) (drop (suc j) old)) → ThreeParts tok e old part is
