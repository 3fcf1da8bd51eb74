-- The length of the longest name passed.
use mathlib.Core.Path.{◌≡◌}
use mathlib.Core.List.{[], map}
use Prim.Native.Nat.{◌≤◌}
use native.Mathlib.Omega.{arith}
use lib.ListN.{length, get_or}
use Rattle.scope.specs.Limits.{max_name}
use Rattle.scope.specs.Sound.{rows_entries}
use Rattle.search.proofs.WidthLaws.{short_held, most_none, most_more, most_all, length-name, length-names}
use Rattle.search.proofs.longest.longest_parsed.Goals as goal

pub loop-i-init : goal.loop-i-init
loop-i-init c = record { value = most_none _; within = omega arith }

pub loop-i-preserved : goal.loop-i-preserved
loop-i-preserved c =
    let es = rows_entries c.parsed-parsed.result in
    let k = c.loop-i in
    let short : length c.at.result.name.now ≤ max_name = rw (← c.at.ensures) at (short_held c.parsed-parsed.result k.i (omega arith)) in
    let named : length c.at.result.name.now ≡ length (get_or (map (λ e. e.name) es) k.i []) = rw (← c.at.ensures) at (length-name es k.i) in
    record { value = most_more _ k.i k.invariant.value (omega (arith, named)); within = omega arith }

pub returns : goal.returns
returns c =
    let es = rows_entries c.parsed-parsed.result in
    record {
      value = rw (← c.parsed-parsed.ensures) (most_all _ (omega (arith, length-names es)) c.loop-i.invariant.value);
      within = c.loop-i.invariant.within;
    }
