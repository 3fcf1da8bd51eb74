-- What checked values hold, in the terms of the definitions.
use Rattle.std.specs.Prelude.{List}
use Rattle.scope.specs.Entries.{Entry, ParsingScope}
use Rattle.scope.specs.Lent.{scope_of}
use Rattle.scope.specs.Rows.{all_held}
use Rattle.scope.specs.Answers.{lent}
use Rattle.scope.specs.declared.lent.Sound.{Sound}
use Rattle.scope.specs.declared.rows.Rows.{Rows}

abbrev pub sound_scope : Sound → ParsingScope
sound_scope s = scope_of (lent s.counts s.slots.now s.names.now)

abbrev pub rows_entries : Rows → List Entry
rows_entries r = all_held r.slots.now r.names.now
