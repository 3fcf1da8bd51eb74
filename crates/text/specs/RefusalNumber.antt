-- Which number a refusal of the code has. It stands apart from the numbers, so that these can be read without the code.
use Rattle.std.specs.Prelude.{ℕ}
use Rattle.text.specs.declared.refusal.Refusal.{Refusal}
use Rattle.text.specs.declared.refusal.Refusal.TheVariants.{TooLong, NotUtf8, NoHexDigit, EndAtHexDigit, NoScalarValue, NoSecondHalf, EndAtSecondHalf, StartsWithIn, ShortSlice, BrokenScope, OverLimit, BeyondText, BrokenRequest}
use Rattle.text.specs.Refusals.{too_long, not_utf8, no_hex_digit, end_at_hex_digit, no_scalar_value, no_second_half, end_at_second_half, starts_with_in, short_slice, broken_scope, over_limit, beyond_text, broken_request}

abbrev pub number_of : Refusal → ℕ
number_of TooLong = too_long
number_of NotUtf8 = not_utf8
number_of NoHexDigit = no_hex_digit
number_of EndAtHexDigit = end_at_hex_digit
number_of NoScalarValue = no_scalar_value
number_of NoSecondHalf = no_second_half
number_of EndAtSecondHalf = end_at_second_half
number_of StartsWithIn = starts_with_in
number_of ShortSlice = short_slice
number_of BrokenScope = broken_scope
number_of OverLimit = over_limit
number_of BeyondText = beyond_text
number_of BrokenRequest = broken_request
