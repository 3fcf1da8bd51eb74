-- 01's limits of a scope.
use Rattle.std.specs.Prelude.{ℕ}

abbrev pub max_contexts : ℕ
max_contexts = 32

abbrev pub max_entries : ℕ
max_entries = 512

abbrev pub max_parsed : ℕ
max_parsed = 256

-- Characters of a name.
abbrev pub max_name : ℕ
max_name = 128

-- Depths of an entry are 0 to 7.
abbrev pub max_depth : ℕ
max_depth = 7
