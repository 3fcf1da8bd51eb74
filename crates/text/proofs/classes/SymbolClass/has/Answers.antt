-- The table in code and the definition's list, as ranges of one, cover each other, by computation.
use mathlib.Core.Path.{refl}
use Rattle.reading.specs.Codes.{codes}
use Rattle.text.specs.Classes.{is_symbol}
use Rattle.text.proofs.RangeLaws.{covered, all_covered, same_list_lem}
use Rattle.text.proofs.classes.SymbolClass.has.Goals as goal

pub returns-in_default : goal.returns-in_default
unfolding is_symbol covered all_covered
returns-in_default c = same_list_lem c.in_ranges.ensures (codes "./-'+*") refl refl
