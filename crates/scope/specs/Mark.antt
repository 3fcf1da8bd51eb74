-- The mark of a name: a number below 8,192 that names which are the same have in common.
use Rattle.std.specs.Prelude.{ℕ, ◌+◌, ◌*◌, ◌%◌, List, [], ◌∷◌}

unfoldable pub mark_from : ℕ → List ℕ → ℕ
mark_from m [] = m
mark_from m (c ∷ cs) = mark_from ((31 * m + c % 8192) % 8192) cs

abbrev pub mark_of : List ℕ → ℕ
mark_of cs = mark_from 0 cs
