-- Cells that are no scalar value belong to no class: each range of each table lies in one of the scalar values' ranges, by computation.
use mathlib.Core.Path.{◌≡◌, refl}
use mathlib.Core.Bool.{true}
use mathlib.Core.List.{List, ◌++◌}
use Prim.Native.Nat.{ℕ}
use Rattle.text.specs.Ranges.{among}
use Rattle.text.proofs.RangeLaws.{covered, all_covered, among-covered}
use Rattle.text.specs.Classes.{vertical_spaces, whitespaces, digits, name_starts, name_parts, white_spaces, scalars, is_name_start, is_name_part, is_scalar}

-- The ranges of every class.
abbrev pub class_ranges : List (List ℕ)
class_ranges = vertical_spaces ++ whitespaces ++ digits ++ name_starts ++ name_parts ++ white_spaces

pub classes_scalar : (c : ℕ) → among class_ranges c ≡ true → is_scalar c ≡ true
unfolding is_scalar all_covered covered
classes_scalar c = among-covered class_ranges scalars c refl

-- A name begins with a character that may go on in it.
pub name_start-part : (c : ℕ) → is_name_start c ≡ true → is_name_part c ≡ true
unfolding is_name_start is_name_part all_covered covered
name_start-part c = among-covered name_starts name_parts c refl
