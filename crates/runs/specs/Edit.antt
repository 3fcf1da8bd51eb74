-- One edit of a text.
use Rattle.std.specs.Prelude.{List, ◌++◌, ℕ, ◌+◌, ◌-◌, length, take, drop}
use Rattle.runs.specs.Item.{Item}

-- The cells from `from` up to `to` give way to `size` others.
pub record Edit : Type 0 where
  pub from : ℕ
  pub to : ℕ
  pub size : ℕ

abbrev pub edited : List ℕ → ℕ → ℕ → List ℕ → List ℕ
edited t a b new = take a t ++ new ++ drop b t

-- A place at `to` or behind it. 01: positions move by replacement length minus (b - a).
abbrev pub moved : Edit → ℕ → ℕ
moved e q = q - e.to + (e.from + e.size)

-- 01: in the old items that follow positions and reaches move, and all else stays.
abbrev pub moved_item : Edit → Item → Item
moved_item e i =
    record { is_refusal = i.is_refusal; number = i.number; position = moved e i.position; flags = i.flags; reach = moved e i.reach; value = i.value; lengths = i.lengths; extra = i.extra }

-- An edit with the cells that it puts in.
pub record Change : Type 0 where
  pub from : ℕ
  pub to : ℕ
  pub new : List ℕ

abbrev pub changed : List ℕ → Change → List ℕ
changed t c = edited t c.from c.to c.new

abbrev pub edit_of : Change → Edit
edit_of c = record { from = c.from; to = c.to; size = length c.new }
