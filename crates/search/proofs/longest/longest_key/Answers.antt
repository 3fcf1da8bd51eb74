-- A key has at most one name of each depth and " . " between two: the sum of what the longest add, less one " . ".
use Rattle.std.proofs.Common.{rules}
use mathlib.Core.Path.{◌≡◌, ◌∙◌}
use Prim.Native.Nat.{◌-◌}
use native.Mathlib.Omega.{arith}
use Rattle.std.specs.List.{sum}
use Rattle.scope.specs.Sound.{sound_scope}
use Rattle.search.specs.Longest.{cap_of}
use Rattle.search.proofs.WidthLaws.{row_sum, cap_capped}
use Rattle.search.proofs.longest.longest_key.Goals as goal

pub returns : goal.returns
returns c =
    let s = sound_scope c.args.scope in
    let k : c.sum-keys.result ≡ sum c.widest-widest.result = search rules in
    let t = k ∙ row_sum s.entries c.widest-widest.result (omega arith) c.widest-widest.ensures.value in
    let v : c.max.result - 3 ≡ cap_of s = omega (arith, t, c.longest_parsed.ensures.value) in
    record { capped = rw v (cap_capped s); value = v }
