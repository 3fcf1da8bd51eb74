-- So many names were first seen among those passed; no more than one over the limit are counted.
use mathlib.Core.Path.{◌≡◌, refl, ◌∙◌}
use mathlib.Core.Bool.{Bool, true, false, cond}
use Prim.Native.Nat.{◌<◌, ◌≤◌}
use native.Mathlib.Omega.{arith}
use lib.ListN.{length, length-map}
use mir.Val.{bool_byte}
use Rattle.lists.specs.List.{entries_of}
use Rattle.lists.proofs.FirstLaws.{firsts_all, firsts_step, firsts_end}
use Rattle.lists.proofs.settling.remaining.Goals as goal

byte : (b : Bool) → (bool_byte b ≡ cond b 1 0) × (bool_byte b ≤ 1)
byte true = (refl, omega arith)
byte false = (refl, omega arith)

pub loop-i-init : goal.loop-i-init
loop-i-init c = let l = c.args.list in (omega arith, omega (arith, firsts_all l.context l.cells.now l.rows.now))

pub loop-i-preserved : goal.loop-i-preserved
loop-i-preserved c =
    let l = c.args.list in
    let h : c.loop-i.i < length (entries_of l) = simp length-map (omega arith) in
    let b = byte c.is_first.result in
    (omega (arith, b.1), omega (arith, c.loop-i.invariant.1, firsts_step (entries_of l) c.loop-i.cut c.loop-i.i h (c.from-n.ensures ∙ b.0 ∙ c.is_first.ensures) c.cut_behind-cut.ensures))

pub returns : goal.returns
returns c =
    let l = c.args.list in
    let h : length (entries_of l) ≤ c.loop-i.i = simp length-map (omega arith) in
    omega (arith, c.loop-i.invariant.1, firsts_end (entries_of l) c.loop-i.cut c.loop-i.i h)
