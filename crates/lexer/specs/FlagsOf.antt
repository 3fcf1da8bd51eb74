-- The code's flags, in the terms of the definitions.
use Rattle.lexer.specs.Flags as spec
use Rattle.lexer.specs.declared.flags.Flag.{Flag}
use Rattle.lexer.specs.declared.flags.Flag.TheVariants.{UnaryTests, Between, TypeName, TillIn, AfterDot}
use Rattle.lexer.specs.declared.flags.Flags.{Flags}

abbrev pub flags_of : Flags → spec.Flags
flags_of f = record { unary_tests = f.unary_tests; between = f.between; type_name = f.type_name; till_in = f.till_in; after_dot = f.after_dot }

abbrev pub flag_named : Flag → spec.Flag
flag_named UnaryTests = spec.UnaryTests
flag_named Between = spec.Between
flag_named TypeName = spec.TypeName
flag_named TillIn = spec.TillIn
flag_named AfterDot = spec.AfterDot
