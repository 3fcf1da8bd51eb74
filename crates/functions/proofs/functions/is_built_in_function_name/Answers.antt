-- The table has at each place all names of that length, by computation.
use mathlib.Core.Path.{refl}
use Rattle.functions.specs.Functions.{function_names}
use Rattle.functions.proofs.FunctionLaws.{of_length, decided}
use Rattle.functions.proofs.functions.is_built_in_function_name.Goals as goal

pub returns : goal.returns
unfolding of_length function_names
returns c = decided _ _ function_names c.is_among_as_long.ensures refl refl
