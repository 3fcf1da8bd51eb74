-- Rows read and items written, computed: they fill the front and the rest stays; too short a slice is 9 and stays.
use mathlib.Core.Path.{◌≡◌, refl}
use mathlib.Core.Bool.{false, true}
use mathlib.Core.List.{List, [], ◌∷◌, ◌++◌}
use Prim.Native.Nat.{ℕ}
use lib.ListN.{length}
use Rattle.lexer.specs.declared.flags.Flags.{Flags}
use Rattle.records.specs.declared.stored.Stored.{Stored}
use Rattle.records.specs.Stored.{blank, stored_of, row_from}
use Rattle.records.specs.Items.{refusal, copied}

-- The record of `.5` under `between`: the start item, a number of two digits, and YyEof.
abbrev between : Flags
between = record { unary_tests = false; between = true; type_name = false; till_in = false; after_dot = false }

abbrev start : Stored
start = record { refused = false; number = 258; position = 0; flags = between; reach = 0; start = 0; length = 0; before = 0; after = 0; exponent = 0; extra = 0 }

abbrev number : Stored
number = record { refused = false; number = 287; position = 2; flags = between; reach = 12; start = 0; length = 2; before = 1; after = 1; exponent = 0; extra = 0 }

abbrev end : Stored
end = record { refused = false; number = 0; position = 2; flags = between; reach = 14; start = 2; length = 0; before = 0; after = 0; exponent = 0; extra = 0 }

abbrev items : List Stored
items = start ∷ number ∷ end ∷ []

abbrev rows : List (List ℕ)
rows = (0 ∷ 258 ∷ 0 ∷ 2 ∷ 0 ∷ 0 ∷ 0 ∷ 0 ∷ 0 ∷ 0 ∷ 0 ∷ []) ∷ (0 ∷ 287 ∷ 2 ∷ 2 ∷ 12 ∷ 0 ∷ 2 ∷ 1 ∷ 1 ∷ 0 ∷ 0 ∷ []) ∷ (0 ∷ 0 ∷ 2 ∷ 2 ∷ 14 ∷ 2 ∷ 0 ∷ 0 ∷ 0 ∷ 0 ∷ 0 ∷ []) ∷ []

pub items-cases :
    (refusal (length rows) 3 ≡ 0)
    × (copied stored_of rows (blank ∷ blank ∷ blank ∷ blank ∷ []) ≡ items ++ (blank ∷ []))
    × (refusal (length rows) 2 ≡ 9)
    × (copied stored_of rows (number ∷ blank ∷ []) ≡ number ∷ blank ∷ [])
    × (copied row_from items ([] ∷ [] ∷ [] ∷ [] ∷ []) ≡ rows ++ ([] ∷ []))
    × (copied row_from items ([] ∷ [] ∷ []) ≡ [] ∷ [] ∷ [])
items-cases = (refl, refl, refl, refl, refl, refl)
