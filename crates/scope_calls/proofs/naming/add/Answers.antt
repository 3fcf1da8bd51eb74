-- The definition's tests in order; what stays and what is left of the list are counted before anything is moved.
use Rattle.std.proofs.Common.{rules, []}
use native.Mathlib.Omega.{arith}
use mathlib.Core.Path.{refl}
use Rattle.scope.specs.Kinds.{kind_number}
use Rattle.scope.proofs.SoundLaws.{short_name}
use Rattle.lists.specs.List.{entries_of}
use Rattle.lists.proofs.OneContext.{AllIn, listed_in}
use Rattle.scope_calls.proofs.WholeLaws.{done_as}
use Rattle.scope_calls.proofs.AppendLaws.{few}
use Rattle.scope_calls.proofs.DeeperLaws.{broken_more}
use Rattle.scope_calls.proofs.NameCallLaws.{Found, found, new_place, added_rows, added_full, added_done, added_whole, named_first}
use Rattle.scope_calls.proofs.naming.add.Goals as goal
use Rattle.scope_calls.proofs.naming.add.Goals.{After-left_beside}
use Rattle.scope_calls.proofs.naming.add.Goals.{then-kept-ge-MAX_ENTRIES-via-then-kept-ge-MAX_ENTRIES, then-kept-ge-MAX_ENTRIES-via-else-kept-ge-MAX_ENTRIES+then-kept-remaining}

-- What is known before anything is written: of the last context, and of the list.
before : (c : After-left_beside) → Found c.args.s c.args.slots.now c.args.names.now c.args.name.now c.before_context-from.result c.left_beside.result × AllIn c.args.s.contexts (entries_of c.args.list)
before c =
    let a = c.args in
    let r = c.requires in
    (found a.s a.slots.now a.names.now r.0 a.name.now c.entries-held.ensures c.before_context-from.ensures c.left_beside.ensures, rw (← r.1) (listed_in a.list.context a.list.cells.now a.list.rows.now))

pub overflow_add-kept : goal.overflow_add-kept
overflow_add-kept c =
    let f = (before ((goal.at.overflow_add-kept c).After-left_beside)).0 in
    let w = f.sound.limits in
    omega (arith, f.within)

pub returns-then-kept-ge-MAX_ENTRIES : goal.returns-then-kept-ge-MAX_ENTRIES
returns-then-kept-ge-MAX_ENTRIES c =
    let a = c.args in
    let b = before ((goal.at.returns-then-kept-ge-MAX_ENTRIES c).After-left_beside) in
    let full = added_full b.0 (kind_number a.kind) (entries_of a.list) b.1 c.requires.2 c.if-s-eq0.false in (
      elim c.then-kept-ge-MAX_ENTRIES.branch [
        | then-kept-ge-MAX_ENTRIES-via-then-kept-ge-MAX_ENTRIES w ↦ full (omega arith)
        | then-kept-ge-MAX_ENTRIES-via-else-kept-ge-MAX_ENTRIES+then-kept-remaining w ↦ full (omega (arith, w.remaining.ensures))
      ],
      refl,
      refl,
      tt,
    )

pub replace-at-requires : goal.replace-at-requires
replace-at-requires c =
    let f = (before ((goal.at.replace-at-requires c).After-left_beside)).0 in
    let w = f.sound.limits in
    (f.few, omega arith, omega arith, omega arith, f.sound.short_entries, short_name c.args.name.now (named_first _ _ c.requires.3), omega (arith, f.stay))

pub append-entries-requires : goal.append-entries-requires
append-entries-requires c =
    let f = (before ((goal.at.append-entries-requires c).After-left_beside)).0 in
    let w = f.sound.limits in
    let m = c.replace-at.ensures.moved in
    let z = new_place _ _ f.stay m in
    (broken_more [] (entries_of c.args.list) c.requires.2, omega arith, omega (arith, z, c.remaining.ensures, m.as_many_slots), omega (arith, z, c.remaining.ensures, m.as_many_names))

pub returns : goal.returns
returns c =
    let a = c.args in
    let r = c.requires in
    let b = before ((goal.at.returns c).After-left_beside) in
    let k = kind_number a.kind in
    let es = entries_of a.list in
    let n = few c.remaining.ensures (omega arith) in
    let m = added_rows b.0 k es b.1 r.2 (rw (c.from.ensures, r.1) at c.replace-at.ensures.moved) c.append-entries.ensures.written (omega (arith, n)) in
    done_as (record { contexts = a.s.contexts; entries = c.append-entries.result; parsed = a.s.parsed }) (added_done b.0 k es b.1 r.2 c.if-s-eq0.false (omega (arith, n)) m) (added_whole b.0 k es b.1 r.2 c.if-s-eq0.false (omega (arith, n)) m r.3) (search rules) (search rules)
