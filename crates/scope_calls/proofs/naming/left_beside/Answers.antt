-- So many stay among those passed.
use mathlib.Core.Path.{ap}
use Prim.Native.Nat.{◌<◌, ◌≤◌}
use native.Mathlib.Omega.{arith}
use lib.ListN.{length}
use Rattle.scope.specs.Sound.{rows_entries}
use Rattle.scope_calls.proofs.NamingLaws.{as_one, without_end, left_step}
use Rattle.scope_calls.proofs.naming.left_beside.Goals as goal

pub loop-i-preserved : goal.loop-i-preserved
loop-i-preserved c =
    let es = rows_entries c.args.entries in
    let i = c.loop-i.i in
    let h : i < length es = omega arith in
    let b = as_one c.stays_beside-kept.result in
    (omega (arith, c.from-n.ensures, b.1), omega (arith, c.from-n.ensures, b.0, c.loop-i.invariant.1, left_step es i c.args.name.now c.loop-i.cut c.at-e.ensures h c.stays_beside-kept.ensures c.cut_after-cut.ensures))

pub returns : goal.returns
returns c =
    let es = rows_entries c.args.entries in
    let h : length es ≤ c.loop-i.i = omega arith in
    (omega arith, omega (arith, c.loop-i.invariant.1, ap length (without_end es c.loop-i.i c.args.name.now c.loop-i.cut h)))
