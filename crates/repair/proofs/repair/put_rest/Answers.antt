-- The fresh items, and the old rest behind them.
use Rattle.repair.proofs.RepairCodeLaws.{askable_accepted, kept-one, kept_place, rest-is, rest_copyable, rest-rows, rest-cells, rest_all}
use native.Mathlib.Omega.{arith}
use Prim.Native.Nat.{◌-◌}
use mathlib.Core.Path.{refl}
use Rattle.repair.proofs.repair.put_rest.Goals as goal

pub overflow_sub-last : goal.overflow_sub-last
overflow_sub-last c = omega (arith, kept-one c.requires.0 c.requires.1)

pub read_to_match-m-requires : goal.read_to_match-m-requires
read_to_match-m-requires c =
    let a = c.requires.0 in
    let p = kept_place a c.requires.1 in
    (omega (arith, a.limit, p), omega (arith, a.rows_long, p, c.requires.3), omega (arith, a.store_long, p, c.requires.4), record { room = omega (arith, a.scratch_long, p); clean = c.requires.5 }, c.requires.3, c.requires.4, askable_accepted a)

pub copy_items-requires : goal.copy_items-requires
copy_items-requires c =
    let a = c.requires.0 in
    let t = c.read_to_match-m.ensures.to_match in
    let p = kept_place a c.requires.1 in
    let r = rest-rows a t p c.requires.3 c.requires.4 refl in
    let s = rest-cells a t p c.requires.3 c.requires.4 in
    rw (rest-is a t p c.requires.3 c.requires.4) (rest_copyable a t p c.requires.3 c.requires.4, omega (arith, r, t.behind.as_many), omega (arith, s, a.limit), omega (arith, s, a.store_long, t.behind.as_long))

pub returns-clause-behind : goal.returns-clause-behind
returns-clause-behind c =
    let a = c.requires.0 in
    let t = c.read_to_match-m.ensures.to_match in
    let p = kept_place a c.requires.1 in
    let b = rw (rest-is a t p c.requires.3 c.requires.4) at c.copy_items.ensures.behind in
    rest_all a t p c.requires.3 c.requires.4 (c.args.k - 1) refl c.from_bits-flags.ensures b
