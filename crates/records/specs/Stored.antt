-- An item as a struct, and the row of eleven numbers that it stands for.
use Rattle.std.specs.Prelude.{false, List, [], ◌∷◌, ℕ, eqb, get_or}
use Rattle.lexer.specs.Flags as spec
use Rattle.lexer.specs.FlagsOf.{flags_of}
use Rattle.lexer.specs.declared.flags.Flags.{Flags}
use Rattle.runs.specs.Item.{bit}
use Rattle.runs.specs.Record.{flag_bits, bit_flags, refused_at, number_at, position_at, flags_at, reach_at, start_at, length_at, before_at, after_at, exponent_at, extra_at}
use Rattle.records.specs.declared.stored.Stored.{Stored}

-- The code's flags of the definitions'.
abbrev pub flags_from : spec.Flags → Flags
flags_from f = record { unary_tests = f.unary_tests; between = f.between; type_name = f.type_name; till_in = f.till_in; after_dot = f.after_dot }

-- The stored item of a row.
abbrev pub stored_of : List ℕ → Stored
stored_of r = record {
  refused = eqb (get_or r refused_at 0) 1;
  number = get_or r number_at 0;
  position = get_or r position_at 0;
  flags = flags_from (bit_flags (get_or r flags_at 0));
  reach = get_or r reach_at 0;
  start = get_or r start_at 0;
  length = get_or r length_at 0;
  before = get_or r before_at 0;
  after = get_or r after_at 0;
  exponent = get_or r exponent_at 0;
  extra = get_or r extra_at 0;
}

-- Its row, in the order of the places.
abbrev pub row_from : Stored → List ℕ
row_from i =
    bit i.refused ∷ i.number ∷ i.position ∷ flag_bits (flags_of i.flags) ∷ i.reach ∷ i.start ∷ i.length ∷ i.before ∷ i.after ∷ i.exponent ∷ i.extra ∷ []

-- What stands where nothing does: the item of a row of zeros.
abbrev pub blank : Stored
blank = record {
  refused = false;
  number = 0;
  position = 0;
  flags = record { unary_tests = false; between = false; type_name = false; till_in = false; after_dot = false };
  reach = 0;
  start = 0;
  length = 0;
  before = 0;
  after = 0;
  exponent = 0;
  extra = 0;
}
