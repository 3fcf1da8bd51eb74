-- The exported test of a name: 1 for that of a built-in function, else 0.
use Rattle.std.specs.Prelude.{cond, List, ℕ}
use Rattle.functions.specs.Functions.{is_function_name}

abbrev pub feel_is_built_in_function_name : List ℕ → ℕ
feel_is_built_in_function_name name = cond (is_function_name name) 1 0
