-- The parts are written as `Name::new` joins them.
use Prim.Native.Nat.{◌+◌}
use native.Mathlib.Omega.{arith}
use Rattle.naming.proofs.CutLaws.{gives_name}
use Rattle.naming.proofs.name.named.Goals as goal

pub write_parts-k-requires : goal.write_parts-k-requires
write_parts-k-requires c = let n = c.args.name in let k = n.counted in (omega (arith, k.on, k.within), omega (arith, n.roomy.so _ c.requires.0))

pub returns : goal.returns
returns c = gives_name _ _ _ c.write_parts-k.ensures _ c.args.end c.args.flags (c.args.name.end + 1)
