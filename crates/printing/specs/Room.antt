-- Room for all that the record program can print.
use Rattle.std.specs.Prelude.{ℕ, ◌+◌, ◌*◌}

-- The bytes that the program takes; each character, and so each item but the first and the last, has at least one.
abbrev pub max_input : ℕ
max_input = 2_048

-- A line has at most 56 characters beside its value's, and 11 for each cell of the value.
abbrev pub max_printed : ℕ
max_printed = 56 * (max_input + 2) + 11 * max_input
