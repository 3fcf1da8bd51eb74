-- The kinds of the code by their numbers.
use Rattle.std.specs.Prelude.{ℕ}
use Rattle.scope.specs.Entries.{variable, context_kind}
use Rattle.scope.specs.declared.scope.Kind.{Kind}
use Rattle.scope.specs.declared.scope.Kind.TheVariants.{Variable, Context}

abbrev pub kind_number : Kind → ℕ
kind_number Variable = variable
kind_number Context = context_kind
