-- The table in code and the definition's cover each other, by computation.
use mathlib.Core.Path.{refl}
use Rattle.text.specs.Classes.{name_parts, is_name_part}
use Rattle.text.proofs.RangeLaws.{covered, all_covered, same_class}
use Rattle.text.proofs.classes.NamePartClass.has.Goals as goal

pub returns-in_default : goal.returns-in_default
unfolding is_name_part covered all_covered
returns-in_default c = same_class c.in_ranges.ensures name_parts refl refl
