-- Rows that are lent to be written.
use Rattle.std.specs.Prelude.{◌≡◌}
use Rattle.scope_calls.specs.declared.write.RowsMut.{RowsMut}

-- The rows are still those that were lent.
pub record SameRows (r r' : RowsMut) : Type 0 where
  pub slots : r'.slots.ghost_name ≡ r.slots.ghost_name
  pub names : r'.names.ghost_name ≡ r.names.ghost_name
