-- Cells written one behind the other.
use Rattle.std.specs.Prelude.{◌≡◌, List, ℕ, length}
use Rattle.reading.specs.Slices.{Further}
use Rattle.text.specs.declared.output.Output.{Output}

-- v stands behind what was written to the same cells.
pub record Adds (o : Output) (v : List ℕ) (o' : Output) : Type 0 where
  pub further : Further o.cells.now o.len v o'.len o'.cells.now
  pub same : length o'.cells.now ≡ length o.cells.now
  pub same_reference : o'.cells.ghost_name ≡ o.cells.ghost_name
