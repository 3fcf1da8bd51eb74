-- An entry of the code in the terms of the definitions.
use Rattle.std.specs.Prelude.{[]}
use Rattle.scope.specs.Entries.{Entry as Model, variable}
use Rattle.scope.specs.declared.entries.Entry.{Entry}

abbrev pub viewed : Entry → Model
viewed e = record { context = e.context; depth = e.depth; kind = e.kind; name = e.name.now }

-- What stands in no list.
abbrev pub no_entry : Model
no_entry = record { context = 0; depth = 0; kind = variable; name = [] }
