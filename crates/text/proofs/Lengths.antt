-- The table of well-formed sequences and the leading one bits tell the same length, computed for every first byte.
use mathlib.Core.Path.{◌≡◌, refl}
use mathlib.Core.Bool.{Bool, true, ◌&&◌, ◌||◌, not}
use mathlib.Core.List.{List, [], ◌∷◌}
use Prim.Native.Nat.{ℕ, ◌<◌}
use lib.Dec.{eqb}
use lib.ListN.{length, get_or}
use Rattle.reading.proofs.Test.{below}
use Rattle.text.specs.Ranges.{within}
use Rattle.text.specs.Utf8.{leading_ones, sequence_length, well_formed_rows}

-- Wherever a row admits the first byte, it is as long as the byte tells.
unfoldable pub agrees : List (List (List ℕ)) → ℕ → Bool
agrees [] b = true
agrees (r ∷ rs) b = (not (within (get_or r 0 []) b) || eqb (length r) (sequence_length b)) && agrees rs b

pub lengths_agree : (b : ℕ) → b < 256 → agrees well_formed_rows b ≡ true
unfolding agrees well_formed_rows leading_ones
lengths_agree = below (agrees well_formed_rows) 256 refl
