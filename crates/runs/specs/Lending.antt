-- What is lent to a call, in the terms of the definitions.
use Rattle.std.specs.Prelude.{◌≡◌}
use Rattle.scope.specs.Lent as scope
use Rattle.scope.specs.Answers.{lent}
use Rattle.scope.specs.declared.lent.Lent.{Lent}
use Rattle.scope.specs.declared.lent.Sound.{Sound}
use Rattle.runs.specs.declared.room.Room.{Room as Coded}
use Rattle.runs.specs.Calls.{Room}

abbrev pub lent_of : Lent → scope.Lent
lent_of l = lent l.counts l.slots.now l.names.now

abbrev pub sound_of : Sound → scope.Lent
sound_of s = lent s.counts s.slots.now s.names.now

abbrev pub room_of : Coded → Room
room_of r = record { rows = r.rows.now; store = r.store.now; scratch = r.scratch.now }

-- The slices are still those that were lent.
pub record SameSlices (r r' : Coded) : Type 0 where
  pub rows : r'.rows.ghost_name ≡ r.rows.ghost_name
  pub store : r'.store.ghost_name ≡ r.store.ghost_name
  pub scratch : r'.scratch.ghost_name ≡ r.scratch.ghost_name

-- The slices are those that were lent, and scratch holds what it held.
pub record Returned (r r' : Coded) : Type 0 where
  pub same : SameSlices r r'
  pub clean : r'.scratch.now ≡ r.scratch.now
