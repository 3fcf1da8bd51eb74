-- The five flags of the lexer's state.
use Rattle.std.specs.Prelude.{Bool, false}

pub record Flags : Type 0 where
  pub unary_tests : Bool
  pub between : Bool
  pub type_name : Bool
  pub till_in : Bool
  pub after_dot : Bool

-- The flags by name.
pub data Flag : Type 0 where
  UnaryTests : Flag
  Between : Flag
  TypeName : Flag
  TillIn : Flag
  AfterDot : Flag

abbrev pub flag_of : Flag → Flags → Bool
flag_of UnaryTests f = f.unary_tests
flag_of Between f = f.between
flag_of TypeName f = f.type_name
flag_of TillIn f = f.till_in
flag_of AfterDot f = f.after_dot

-- One flag anew, the other four as they are.
abbrev pub put : Bool → Flag → Flags → Flags
put b UnaryTests f = record { unary_tests = b; between = f.between; type_name = f.type_name; till_in = f.till_in; after_dot = f.after_dot }
put b Between f = record { unary_tests = f.unary_tests; between = b; type_name = f.type_name; till_in = f.till_in; after_dot = f.after_dot }
put b TypeName f = record { unary_tests = f.unary_tests; between = f.between; type_name = b; till_in = f.till_in; after_dot = f.after_dot }
put b TillIn f = record { unary_tests = f.unary_tests; between = f.between; type_name = f.type_name; till_in = b; after_dot = f.after_dot }
put b AfterDot f = record { unary_tests = f.unary_tests; between = f.between; type_name = f.type_name; till_in = f.till_in; after_dot = b }

abbrev pub clear : Flag → Flags → Flags
clear g f = put false g f

abbrev pub no_flags : Flags
no_flags = record { unary_tests = false; between = false; type_name = false; till_in = false; after_dot = false }
