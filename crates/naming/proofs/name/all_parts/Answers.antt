-- The name just written is tried in the order of the definition.
use Rattle.naming.proofs.CutLaws.{written_room, written_size, all_type, all_temporal, all_plain}
use native.Mathlib.Omega.{arith}
use Rattle.naming.proofs.name.all_parts.Goals as goal

pub write_parts-k-requires : goal.write_parts-k-requires
write_parts-k-requires c = let n = c.args.name in let k = n.counted in (omega (arith, k.on, k.within), omega (arith, n.roomy.so n.parts (omega arith)))

pub slice_bounds-is_type-end : goal.slice_bounds-is_type-end
slice_bounds-is_type-end c = let l = written_room _ _ _ c.write_parts-k.ensures c.args.name.roomy in omega arith

pub slice_bounds-is_type-end-2 : goal.slice_bounds-is_type-end-2
slice_bounds-is_type-end-2 c = written_size _ _ _ c.write_parts-k.ensures

pub returns-then-is_type : goal.returns-then-is_type
returns-then-is_type c = λ is_name. all_type _ _ _ _ c.write_parts-k.ensures c.args.flags is_name c.is_type.ensures c.if-is_type.true c.clear.ensures

pub slice_bounds-is_temporal-end : goal.slice_bounds-is_temporal-end
slice_bounds-is_temporal-end c = let l = written_room _ _ _ c.write_parts-k.ensures c.args.name.roomy in omega arith

pub slice_bounds-is_temporal-end-2 : goal.slice_bounds-is_temporal-end-2
slice_bounds-is_temporal-end-2 c = written_size _ _ _ c.write_parts-k.ensures

pub returns-then-is_temporal : goal.returns-then-is_temporal
returns-then-is_temporal c = λ is_name. all_temporal _ _ _ _ c.write_parts-k.ensures c.args.flags is_name c.is_type.ensures c.if-is_type.false c.is_temporal.ensures c.if-is_temporal.true

pub returns : goal.returns
returns c = λ is_name. all_plain _ _ _ _ c.write_parts-k.ensures c.args.flags is_name c.is_type.ensures c.if-is_type.false c.is_temporal.ensures c.if-is_temporal.false
