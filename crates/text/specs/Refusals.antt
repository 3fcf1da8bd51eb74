-- The numbers of 01's refusals.
use Rattle.std.specs.Prelude.{List, [], ◌∷◌, ℕ}

-- Caused by the author's text.
abbrev pub too_long : ℕ
too_long = 1

abbrev pub not_utf8 : ℕ
not_utf8 = 2

abbrev pub no_hex_digit : ℕ
no_hex_digit = 3

abbrev pub end_at_hex_digit : ℕ
end_at_hex_digit = 4

abbrev pub no_scalar_value : ℕ
no_scalar_value = 5

abbrev pub no_second_half : ℕ
no_second_half = 6

abbrev pub end_at_second_half : ℕ
end_at_second_half = 7

abbrev pub starts_with_in : ℕ
starts_with_in = 8

-- Caused by the host.
abbrev pub short_slice : ℕ
short_slice = 9

abbrev pub broken_scope : ℕ
broken_scope = 10

abbrev pub over_limit : ℕ
over_limit = 11

abbrev pub beyond_text : ℕ
beyond_text = 12

abbrev pub broken_request : ℕ
broken_request = 13

-- All of them.
abbrev pub all : List ℕ
all =
    too_long ∷ not_utf8 ∷ no_hex_digit ∷ end_at_hex_digit ∷ no_scalar_value ∷ no_second_half ∷ end_at_second_half ∷ starts_with_in ∷ short_slice ∷ broken_scope ∷ over_limit ∷ beyond_text ∷ broken_request ∷ []
