-- The names of bif.rs: those of the built-in functions.
use Rattle.std.specs.Prelude.{Bool, List, [], ◌∷◌, map, ℕ, zero, suc}
use Rattle.std.specs.Borrow.{Bor}
use Rattle.reading.specs.Codes.{codes}
use Rattle.names.specs.Same.{member}

unfoldable pub function_names : List (List ℕ)
function_names = map codes
    ("abs" ∷ "after" ∷ "all" ∷ "any" ∷ "append" ∷ "before" ∷ "ceiling" ∷ "coincides" ∷ "concatenate" ∷ "contains" ∷ "context" ∷ "context merge" ∷
    "context put" ∷ "count" ∷ "date" ∷ "date and time" ∷ "day of week" ∷ "day of year" ∷ "decimal" ∷ "distinct values" ∷ "duration" ∷ "during" ∷
    "ends with" ∷ "even" ∷ "exp" ∷ "finished by" ∷ "finishes" ∷ "flatten" ∷ "floor" ∷ "get entries" ∷ "get value" ∷ "includes" ∷ "index of" ∷
    "insert before" ∷ "is" ∷ "list contains" ∷ "list replace" ∷ "log" ∷ "lower case" ∷ "matches" ∷ "max" ∷ "mean" ∷ "median" ∷ "meets" ∷ "met by" ∷
    "min" ∷ "mode" ∷ "modulo" ∷ "month of year" ∷ "not" ∷ "now" ∷ "number" ∷ "odd" ∷ "overlaps" ∷ "overlaps after" ∷ "overlaps before" ∷ "product" ∷
    "range" ∷ "remove" ∷ "replace" ∷ "reverse" ∷ "round down" ∷ "round half down" ∷ "round half up" ∷ "round up" ∷ "sort" ∷ "split" ∷ "sqrt" ∷
    "started by" ∷ "starts" ∷ "starts with" ∷ "stddev" ∷ "string" ∷ "string join" ∷ "string length" ∷ "sublist" ∷ "substring" ∷ "substring after" ∷
    "substring before" ∷ "sum" ∷ "time" ∷ "today" ∷ "union" ∷ "upper case" ∷ "week of year" ∷ "years and months duration" ∷ [])

abbrev pub is_function_name : List ℕ → Bool
is_function_name t = member t function_names

-- The names of a table.
abbrev pub names_of : Bor (List (Bor (List ℕ))) → List (List ℕ)
names_of names = map (λ t. t.now) names.now

-- Those at a place; none behind the last.
unfoldable pub at_place : List (List (List ℕ)) → ℕ → List (List ℕ)
at_place [] n = []
at_place (names ∷ tables) zero = names
at_place (names ∷ tables) (suc n) = at_place tables n
