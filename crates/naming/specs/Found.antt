-- What a search for a prefix answers, in the terms of the definitions.
use Rattle.std.specs.Prelude.{Bool, true, false, ℕ, Option, None, Some}
use Rattle.naming.specs.declared.prefix.Found.{Found}
use Rattle.naming.specs.declared.prefix.Found.TheVariants.{Property, Name}
use Rattle.naming.specs.declared.prefix.Prefix.{Prefix}

abbrev pub is_property : Option Found → Bool
is_property None = false
is_property (Some Property) = true
is_property (Some Name) = false

-- How many parts the prefix has, 0 if none is found, and whether it is a property.
abbrev pub parts_of : Option Prefix → ℕ
parts_of None = 0
parts_of (Some p) = p.parts

abbrev pub property_of : Option Prefix → Bool
property_of None = false
property_of (Some p) = is_property (Some p.found)
