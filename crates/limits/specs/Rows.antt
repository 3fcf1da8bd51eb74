-- A scope that is held, with its rows, as every call is lent it.
use Rattle.scope.specs.Lent.{Lent}
use Rattle.scope.specs.Answers.{lent}
use Rattle.limits.specs.declared.held.Held.{Held}

abbrev pub lent_of : Held → Lent
lent_of h = lent h.scope h.slots h.names
