-- The fixed names: the 19 properties of bip.rs, the 10 type names of lexer.rs, the temporal functions of bif.rs.
use Rattle.std.specs.Prelude.{List, [], ◌∷◌, ◌++◌, map, ℕ}
use Rattle.reading.specs.Codes.{codes}

unfoldable pub range_properties : List (List ℕ)
range_properties = map codes ("end" ∷ "end included" ∷ "start" ∷ "start included" ∷ [])

unfoldable pub date_properties : List (List ℕ)
date_properties = map codes ("year" ∷ "years" ∷ "month" ∷ "months" ∷ "day" ∷ "days" ∷ "weekday" ∷ [])

unfoldable pub time_properties : List (List ℕ)
time_properties = map codes ("hour" ∷ "hours" ∷ "minute" ∷ "minutes" ∷ "second" ∷ "seconds" ∷ "time offset" ∷ "timezone" ∷ [])

unfoldable pub property_names : List (List ℕ)
unfolding range_properties date_properties time_properties
property_names = range_properties ++ (date_properties ++ time_properties)

unfoldable pub plain_types : List (List ℕ)
plain_types = map codes ("Any" ∷ "Null" ∷ "boolean" ∷ "number" ∷ "string" ∷ [])

unfoldable pub temporal_types : List (List ℕ)
temporal_types = map codes ("date" ∷ "date and time" ∷ "time" ∷ "years and months duration" ∷ "days and time duration" ∷ [])

unfoldable pub type_names : List (List ℕ)
unfolding plain_types temporal_types
type_names = plain_types ++ temporal_types

unfoldable pub temporal_names : List (List ℕ)
temporal_names = map codes ("date" ∷ "time" ∷ "date and time" ∷ "duration" ∷ [])
