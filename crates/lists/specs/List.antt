-- The entries of a list that was checked.
use Rattle.std.specs.Prelude.{List}
use Rattle.scope.specs.Entries.{Entry}
use Rattle.scope.specs.Lent.{listed}
use Rattle.lists.specs.declared.list.List.{List as Checked}

abbrev pub entries_of : Checked → List Entry
entries_of l = listed l.context l.cells.now l.rows.now
