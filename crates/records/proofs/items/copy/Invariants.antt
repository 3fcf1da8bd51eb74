-- So far what is made of the first i values fills the front.
use mathlib.Core.Path.{◌≡◌}
use Rattle.records.proofs.Filling.{filled}
use Rattle.records.proofs.items.copy.Given as goal

abbrev pub invariant-loop-i : goal.invariant-loop-i
invariant-loop-i g l = record { so_far : (f : _) → ((x : _) (y : _) → g.B.From.from_gives x y → y ≡ f x) → l.to ≡ filled f l.i l.from l.initial.to }
