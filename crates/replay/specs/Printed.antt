-- What of a record is printed together.
use Rattle.std.specs.Prelude.{cond, List, [], ◌∷◌, ℕ, eqb, ltb, get_or, drop}
use Rattle.reading.specs.Cells.{is_one_of}
use Rattle.reading.specs.Span.{span}
use Rattle.text.specs.Refusals.{end_at_second_half, starts_with_in}
use Rattle.runs.specs.Record.{refused_at, number_at}

-- 1 where the Rust panicked in the last item, which 01 refuses with 7 or 8.
abbrev pub panicked : List ℕ → ℕ
panicked last = cond (eqb (get_or last refused_at 0) 0) 0 (cond (is_one_of (end_at_second_half ∷ starts_with_in ∷ []) (get_or last number_at 0)) 1 0)

-- How many cells from i on are alike.
abbrev pub alike : List ℕ → ℕ → ℕ
alike cells i = span (eqb (get_or cells i 0)) (drop i cells)

-- How many cells from i on are printed as one code point: four or more that are alike, or one.
abbrev pub piece_at : List ℕ → ℕ → ℕ
piece_at cells i = cond (ltb (alike cells i) 4) 1 (alike cells i)
