-- Repair of a run's items after one edit: kept ones, ones read afresh, and old ones moved.
use Rattle.std.specs.Prelude.{Bool, cond, ◌&&◌, List, [], ◌∷◌, map, ℕ, ◌+◌, leb, eqb, length, Option, None, Some}
use Rattle.std.specs.Bool.{beq}
use Rattle.reading.specs.Cells.{maybe}
use Rattle.lexer.specs.Flags.{Flags}
use Rattle.runs.specs.Item.{Item}
use Rattle.runs.specs.Run.{Reader, items}
use Rattle.runs.specs.Edit.{Edit, moved, moved_item}

abbrev pub same_flags : Flags → Flags → Bool
same_flags f g =
    beq f.unary_tests g.unary_tests && beq f.between g.between && beq f.type_name g.type_name
    && beq f.till_in g.till_in && beq f.after_dot g.after_dot

-- 01: a match is an item whose position and flags are those of an old item at b or more, moved.
abbrev pub is_match : Edit → Item → ℕ → Flags → Bool
is_match e old p f = leb e.to old.position && eqb (moved e old.position) p && same_flags old.flags f

-- The old items behind the one that matches the state, moved; that one is not its record's last.
unfoldable pub old_rest : Edit → List Item → ℕ → Flags → Option (List Item)
old_rest e [] p f = None
old_rest e (i ∷ []) p f = None
old_rest e (i ∷ j ∷ is) p f = cond (is_match e i p f) (Some (map (moved_item e) (j ∷ is))) (old_rest e (j ∷ is) p f)

-- Fresh items to the first match, tried before each of them on the state that it starts from, and the old rest behind it; or to the run's end.
unfoldable pub followed : Edit → List Item → List Item → ℕ → Flags → List Item
followed e old [] p f = []
followed e old (i ∷ is) p f = maybe (old_rest e old p f) (i ∷ followed e old is i.position i.flags) (λ js. js)

-- The items that a part of the text gives, which begins at p.
abbrev pub fresh_items : Reader → List ℕ → ℕ → Flags → List Item
fresh_items tok part p f = map (moved_item (record { from = 0; to = 0; size = p })) (items tok (length part + 1) part 0 f)

-- 01: kept are the items before the first with reach over a; if all are, nothing follows.
abbrev pub is_kept : Edit → Item → Bool
is_kept e i = leb i.reach e.from

-- The position after the last kept item; the run began at p.
abbrev pub last_kept : Edit → List Item → ℕ → ℕ
last_kept e [] p = p
last_kept e (i ∷ is) p = cond (is_kept e i) (last_kept e is i.position) p

-- The repaired items behind the state of position p and flags f; part is the new text from the last kept position on.
unfoldable pub repaired_from : Reader → Edit → List Item → List ℕ → List Item → ℕ → Flags → List Item
repaired_from tok e old part [] p f = []
repaired_from tok e old part (i ∷ is) p f = cond (is_kept e i)
    (i ∷ repaired_from tok e old part is i.position i.flags)
    (followed e old (fresh_items tok part p f) p f)

-- The first item, whose reach is 0, is always kept.
abbrev pub repair_items : Reader → Edit → List Item → List ℕ → List Item
repair_items tok e [] part = []
repair_items tok e (i ∷ is) part = i ∷ repaired_from tok e (i ∷ is) part is i.position i.flags
