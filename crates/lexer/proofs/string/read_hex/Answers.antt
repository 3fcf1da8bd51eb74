-- The loop has read the digits before `at`, and their value stays below the power of 16 that they allow.
use Rattle.std.proofs.Common.{rules, ◌≡◌, ◌+◌, ◌-◌, ◌<◌, ◌≤◌, length, get_or, sym, arith}
use Rattle.text.proofs.HexLaws.{hex_small}
use Rattle.lexer.proofs.StringLaws.{cap_six, hex_start, hex_value_lem, hex_ends, hex_bad, hex_more}
use Rattle.lexer.proofs.string.read_hex.Goals as goal

pub loop-at-init : goal.loop-at-init
loop-at-init c = hex_start _ _ _ (omega arith)

pub returns-in_default : goal.returns-in_default
returns-in_default c = let l : length c.args.rest.now ≤ c.loop-at.at = search rules in hex_ends c.loop-at.invariant (omega arith) l

pub returns-in_default-hex_to_decimal : goal.returns-in_default-hex_to_decimal
returns-in_default-hex_to_decimal c =
    let l : c.loop-at.at < length c.args.rest.now = search rules in
    let e : c.in-Some.c.now ≡ get_or c.args.rest.now c.loop-at.at 0 = search rules in
    hex_bad c.loop-at.invariant (omega arith) l e c.in_default-hex_to_decimal.ensures

pub overflow_mul-value : goal.overflow_mul-value
overflow_mul-value c = let k = c.loop-at.invariant in omega (arith, k.few, k.small, cap_six (c.args.count - (c.args.from + c.args.count - c.loop-at.at)) (omega arith))

pub overflow_add-value : goal.overflow_add-value
overflow_add-value c =
    let k = c.loop-at.invariant in
    omega (arith, k.few, k.small, cap_six (c.args.count - (c.args.from + c.args.count - c.loop-at.at)) (omega arith), hex_small c.in-Some.c.now c.in-Some-hex_to_decimal.digit (sym c.in-Some-hex_to_decimal.ensures))

pub loop-at-preserved : goal.loop-at-preserved
loop-at-preserved c =
    let l : c.loop-at.at < length c.args.rest.now = search rules in
    let e : c.in-Some.c.now ≡ get_or c.args.rest.now c.loop-at.at 0 = search rules in
    let z : c.args.from + c.args.count - (c.loop-at.at + 1) ≡ c.args.from + c.args.count - c.loop-at.at - 1 = omega arith in
    rw z (hex_more c.loop-at.invariant (omega arith) l e c.in-Some-hex_to_decimal.ensures)

pub returns : goal.returns
returns c = hex_value_lem c.loop-at.invariant (omega arith)
