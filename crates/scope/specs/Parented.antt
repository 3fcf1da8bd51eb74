-- Parents in a list that was found unbroken so far.
use Rattle.std.specs.Prelude.{◌<◌, ◌≡◌, true, List, [], ◌∷◌}
use Rattle.scope.specs.Entries.{Entry}
use Rattle.scope.specs.Broken.{has_parent}

-- Of these entries, nearest first, each has its parent among those behind it.
abbrev pub Parented : List Entry → Type 0
Parented [] = Unit {0}
Parented (e ∷ es) = (0 < e.depth → has_parent e es ≡ true) × Parented es
