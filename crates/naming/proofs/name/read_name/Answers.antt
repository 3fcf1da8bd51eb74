-- The parts are counted once; `item` is tried first.
use Rattle.scope.specs.Sound.{sound_scope}
use Rattle.scope.specs.Keys.{is_name}
use Rattle.lexer.specs.FlagsOf.{flags_of}
use mathlib.Core.Path.{refl}
use native.Mathlib.Omega.{arith}
use Rattle.naming.proofs.NamingLaws.{item_there, item_not, some_part, roomy}
use Rattle.reading.proofs.Cell.{cell_there}
use Rattle.text.specs.Classes.{is_name_part}
use Rattle.naming.proofs.name.read_name.Goals as goal

pub count_parts-walked-requires : goal.count_parts-walked-requires
count_parts-walked-requires c = let l = cell_there is_name_part _ _ c.requires.1 in (omega arith, omega arith)

pub invariant_of-name : goal.invariant_of-name
invariant_of-name c = let n = c.count_parts-walked.ensures in record { counted = n; roomy = roomy c.requires.0 c.requires.1 n (omega arith) }

pub invariant_of-name-2 : goal.invariant_of-name-2
invariant_of-name-2 c = let n = c.count_parts-walked.ensures in record { counted = n; roomy = roomy c.requires.0 c.requires.1 n (omega arith) }

pub cut_at-requires : goal.cut_at-requires
cut_at-requires c = let z = some_part c.requires.0 c.requires.1 c.count_parts-walked.ensures in (omega arith, omega arith, c.requires.2)

pub returns-then-next_is : goal.returns-then-next_is
returns-then-next_is c = let x = c.args in let n = c.count_parts-walked.ensures in (item_there n (flags_of x.flags) (is_name (sound_scope x.known.now.scope)) (some_part c.requires.0 c.requires.1 n) c.next_is.ensures c.if-next_is.true c.cut_at.ensures, refl)

pub returns : goal.returns
returns c = let x = c.args in let n = c.count_parts-walked.ensures in (item_not n (flags_of x.flags) (is_name (sound_scope x.known.now.scope)) (some_part c.requires.0 c.requires.1 n) c.next_is.ensures c.if-next_is.false c.by_in.ensures.0, c.by_in.ensures.1)
