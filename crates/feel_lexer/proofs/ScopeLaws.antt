-- A scope that is not three numbers is broken, whatever rows are lent beside it.
use mathlib.Core.Path.{◌≡◌}
use mathlib.Core.Bool.{true, false}
use mathlib.Core.List.{List}
use Prim.Native.Nat.{ℕ}
use Rattle.scope.specs.Lent.{is_broken}
use Rattle.feel_lexer.specs.Numbers.{is_scope, lent_of}

pub not_three_broken : (scope : List ℕ) → is_scope scope ≡ false → (slots names : List (List ℕ)) → is_broken (lent_of scope slots names) ≡ true
unfolding is_broken
not_three_broken scope h slots names = rw h
