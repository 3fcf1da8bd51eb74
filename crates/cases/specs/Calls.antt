-- The calls of a case by their numbers.
use Rattle.std.specs.Prelude.{ℕ}
use Rattle.cases.specs.declared.numbered.Call.{Call}
use Rattle.cases.specs.declared.numbered.Call.TheVariants.{Push, Pop, SetEntryName, SetContext, AddParsedName}

abbrev pub number_of : Call → ℕ
number_of Push = 0
number_of Pop = 1
number_of SetEntryName = 2
number_of SetContext = 3
number_of AddParsedName = 4
