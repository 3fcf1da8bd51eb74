-- The rows are counted, not read.
use mathlib.Core.Path.{refl}
use Prim.Native.Nat.{◌+◌}
use lib.ListN.{length}
use borrow.Author.Tests.{le-ltb}
use Rattle.scope.specs.Limits.{max_entries, max_parsed}
use Rattle.scope.specs.Broken.{any_misplaced, any_broken, any_repeated, is_broken_set}
use Rattle.scope.specs.Lent.{held, any_too_long, is_broken}
use Rattle.scope.proofs.scope.Scope.opened.Goals as goal

pub returns : goal.returns
unfolding held is_broken any_too_long any_misplaced any_broken any_repeated is_broken_set
returns c = (λ ss ns. refl, λ ss ns h j. rw (le-ltb (length ss) (max_entries + max_parsed) h, le-ltb (length ns) (max_entries + max_parsed) j))
