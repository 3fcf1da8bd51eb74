-- The table in code and the definition's list, as ranges of one, cover each other, by computation.
use mathlib.Core.Path.{refl}
use Rattle.reading.specs.Codes.{codes}
use Rattle.text.specs.Classes.{is_separator}
use Rattle.text.proofs.RangeLaws.{covered, all_covered, same_list_lem}
use Rattle.text.proofs.classes.SeparatorClass.has.Goals as goal

pub returns : goal.returns
unfolding is_separator covered all_covered
returns c = same_list_lem c.in_ranges.ensures (codes " =!<>+-*/%.,)[]}") refl refl
