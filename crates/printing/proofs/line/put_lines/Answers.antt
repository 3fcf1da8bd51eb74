-- A piece for each row.
use Rattle.std.proofs.Common.{[], ap, length, ◌++◌, ◌∙◌, arith}
use Rattle.printing.proofs.PieceLaws.{writing_room, writing_all}
use Rattle.printing.proofs.LineLaws.{row_line, lines_are}
use Rattle.printing.proofs.line.put_lines.Goals as goal

pub put_line-requires : goal.put_line-requires
put_line-requires c =
    let a = c.args in
    omega (arith, writing_room (row_line a.all.store.now) a.all.rows.now [] c.loop-i.invariant c.loop-i-test.true, ap length (lines_are a.all.store.now 0 a.all.rows.now))

pub returns : goal.returns
returns c =
    let a = c.args in
    writing_all (row_line a.all.store.now) a.all.rows.now c.loop-i.invariant (omega arith) ∙ ap (λ l. a.out.now ++ l) (lines_are a.all.store.now 0 a.all.rows.now)
