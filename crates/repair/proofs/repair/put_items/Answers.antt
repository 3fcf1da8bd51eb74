-- The kept items, and behind them, if rows are left, what is read afresh.
use native.Mathlib.Omega.{arith}
use mathlib.Core.Path.{sym, ap, subst}
use lib.ListN.{length}
use lib.Seq.{length-take-le}
use Rattle.lexer.specs.Fit.{Clear}
use Rattle.runs.proofs.BehindLaws.{behind-same, behind_more}
use Rattle.repair.proofs.KeptLaws.{kept_rows}
use Rattle.repair.proofs.RepairCodeLaws.{askable_same, kept_place, kept_copyable, kept-rows, kept_few, kept-cells, kept-count, items-all, items_some}
use Rattle.repair.proofs.repair.put_items.Goals as goal

pub put_kept-kept-requires : goal.put_kept-kept-requires
put_kept-kept-requires c =
    let a = c.requires.0 in
    let t = kept_rows c.args.e.from c.args.old.rows.now c.count_kept-k.ensures in
    let l = kept-cells a t in
    let p = kept_place a t in
    (kept_copyable a t, omega (arith, length-take-le c.count_kept-k.result c.args.old.rows.now t.within, kept-rows a t), omega (arith, l, p, a.limit), omega (arith, l, p, a.store_long))

pub returns-then-k-old-clause-behind : goal.returns-then-k-old-clause-behind
returns-then-k-old-clause-behind c =
    let t = kept_rows c.args.e.from c.args.old.rows.now c.count_kept-k.ensures in
    behind-same (items-all c.requires.0 t _ c.if-k-old.true) c.put_kept-kept.ensures.behind

pub put_rest-requires : goal.put_rest-requires
put_rest-requires c =
    let a = c.requires.0 in
    let t = kept_rows c.args.e.from c.args.old.rows.now c.count_kept-k.ensures in
    let b = c.put_kept-kept.ensures.behind in
    let s = c.put_kept-kept.ensures.back.clean in
    (askable_same a b.as_many b.as_long (ap length s), t, omega (arith, t.within), omega (arith, b.count, kept-count a t, kept_few a t (omega (arith, t.within))), omega (arith, b.cells, kept-cells a t), subst Clear (sym s) c.requires.1)

pub returns-clause-behind : goal.returns-clause-behind
returns-clause-behind c =
    let a = c.requires.0 in
    let t = kept_rows c.args.e.from c.args.old.rows.now c.count_kept-k.ensures in
    behind-same (items_some a t _ (omega (arith, t.within))) (behind_more c.put_kept-kept.ensures.behind c.put_rest.ensures.behind)
