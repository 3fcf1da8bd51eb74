-- Field behind field.
use Rattle.std.proofs.Common.{ap, length, length-append, ℕ, arith}
use Rattle.runs.specs.Record.{item_of}
use Rattle.printing.proofs.LineLaws.{line-size}
use Rattle.printing.proofs.line.put_line.Goals as goal

pub put_field-requires : goal.put_field-requires
put_field-requires c = let a = c.args in omega (arith, line-size a.n (item_of a.store.now a.row))

pub put_type-requires : goal.put_type-requires
put_type-requires c =
    let a = c.args in
    omega (arith, line-size a.n (item_of a.store.now a.row), ap length c.put_field.ensures, length-append {A = ℕ})

pub put_field-requires-2 : goal.put_field-requires-2
put_field-requires-2 c =
    let a = c.args in
    omega (arith, line-size a.n (item_of a.store.now a.row), ap length c.put_field.ensures, ap length c.put_type.ensures, length-append {A = ℕ})

pub put_field-requires-3 : goal.put_field-requires-3
put_field-requires-3 c =
    let a = c.args in
    omega (arith, line-size a.n (item_of a.store.now a.row), ap length c.put_field.ensures, ap length c.put_type.ensures, ap length c.put_field-2.ensures, length-append {A = ℕ})

pub put-requires : goal.put-requires
put-requires c =
    let a = c.args in
    omega (arith, line-size a.n (item_of a.store.now a.row), ap length c.put_field.ensures, ap length c.put_type.ensures, ap length c.put_field-2.ensures, ap length c.put_field-3.ensures, ap length c.of.ensures, length-append {A = ℕ})

pub push-requires : goal.push-requires
push-requires c =
    let a = c.args in
    omega (arith, line-size a.n (item_of a.store.now a.row), ap length c.put_field.ensures, ap length c.put_type.ensures, ap length c.put_field-2.ensures, ap length c.put_field-3.ensures, ap length c.of.ensures, ap length c.put.ensures, length-append {A = ℕ})
