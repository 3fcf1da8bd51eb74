-- The definition's tests in order; what is left of the list is counted before anything is written.
use Rattle.std.proofs.Common.{rules, ◌+◌}
use native.Mathlib.Omega.{arith}
use native.Mathlib.Numerals.{add-one}
use mathlib.Core.Path.{refl, sym, ◌∙◌}
use Rattle.scope.specs.Limits.{max_depth}
use Rattle.scope.specs.Answers.{lent}
use Rattle.scope.proofs.SoundLaws.{sound}
use Rattle.scope_calls.proofs.WholeLaws.{done_as}
use Rattle.scope_calls.proofs.AppendLaws.{Asked, listed_as, inside_as, broken_as, push_broken, push_many, push_full, push_done, push_whole}
use Rattle.scope_calls.proofs.push.push.Goals as goal
use Rattle.scope_calls.proofs.push.push.Goals.{After-any_broken}
use Rattle.scope_calls.proofs.push.push.Goals.{then-contexts-gt-MAX_CONTEXTS-via-then-contexts-gt-MAX_CONTEXTS, then-contexts-gt-MAX_CONTEXTS-via-else-contexts-gt-MAX_CONTEXTS+then-s-remaining}

-- What is known before anything is asked of the list.
asked : (c : After-any_broken) → Asked c.args.s c.args.slots.now c.args.names.now c.args.cells.now c.args.rows.now (c.args.s.contexts + 1)
asked c =
    let a = c.args in
    let ok = c.in_ok-checked.ensures.3 in
    record { ok = ok; limits = (sound (lent a.s a.slots.now a.names.now) ok).limits; inside = inside_as c.in_ok-list.ensures c.in_ok-list.list.inside; next = add-one a.s.contexts }

pub overflow_add-contexts : goal.overflow_add-contexts
overflow_add-contexts c = let a = c.args in let w = (sound (lent a.s a.slots.now a.names.now) c.in_ok-checked.ensures.3).limits in omega arith

pub overflow_cast-contexts : goal.overflow_cast-contexts
overflow_cast-contexts c = let a = c.args in let w = (sound (lent a.s a.slots.now a.names.now) c.in_ok-checked.ensures.3).limits in omega arith

pub returns-then-any_broken : goal.returns-then-any_broken
returns-then-any_broken c =
    let g = asked ((goal.at.returns-then-any_broken c).After-any_broken) in
    (push_broken g (broken_as max_depth c.in_ok-list.ensures c.any_broken.ensures c.if-any_broken.true), refl, refl, tt)

pub overflow_sub-s : goal.overflow_sub-s
overflow_sub-s c = let w = (asked ((goal.at.overflow_sub-s c).After-any_broken)).limits in omega arith

pub returns-then-contexts-gt-MAX_CONTEXTS : goal.returns-then-contexts-gt-MAX_CONTEXTS
returns-then-contexts-gt-MAX_CONTEXTS c =
    let g = asked ((goal.at.returns-then-contexts-gt-MAX_CONTEXTS c).After-any_broken) in
    let p = c.in_ok-list.ensures in
    let v = broken_as max_depth p c.any_broken.ensures c.if-any_broken.false in (
      elim c.then-contexts-gt-MAX_CONTEXTS.branch [
        | then-contexts-gt-MAX_CONTEXTS-via-then-contexts-gt-MAX_CONTEXTS w ↦ push_many g v (omega arith)
        | then-contexts-gt-MAX_CONTEXTS-via-else-contexts-gt-MAX_CONTEXTS+then-s-remaining w ↦ push_full g v (omega arith) (rw (listed_as p) at w.remaining.ensures) (omega arith)
      ],
      refl,
      refl,
      tt,
    )

pub append-entries-requires : goal.append-entries-requires
append-entries-requires c =
    let w = (asked ((goal.at.append-entries-requires c).After-any_broken)).limits in
    (sym c.any_broken.ensures ∙ c.if-any_broken.false, omega arith, omega (arith, c.remaining.ensures), omega (arith, c.remaining.ensures))

pub returns : goal.returns
returns c =
    let a = c.args in
    let g = asked ((goal.at.returns c).After-any_broken) in
    let p = c.in_ok-list.ensures in
    let v = broken_as max_depth p c.any_broken.ensures c.if-any_broken.false in
    let n = rw (listed_as p) at c.remaining.ensures in
    let w = rw (listed_as p) at c.append-entries.ensures.written in
    done_as (record { contexts = a.s.contexts + 1; entries = c.append-entries.result; parsed = a.s.parsed }) (push_done g v (omega arith) n (omega arith) w) (push_whole g v (omega arith) n (omega arith) w) (search rules) (search rules)
