-- An entry has its name, and a context the keys below it, bare and behind its name; the loop passes entries that have none.
use Rattle.std.proofs.Common.{◌+◌, ◌-◌, ap, sym, ◌∙◌, get_or, drop, arith}
use Rattle.names.specs.Same.{member}
use Rattle.scope.specs.Keys.{levels}
use Rattle.scope.specs.Sound.{rows_entries}
use Rattle.scope.specs.Viewed.{viewed, no_entry}
use Rattle.scope.proofs.HeldLaws.{all_length}
use Rattle.scope.proofs.BrokenLaws.{same_pointwise}
use Rattle.search.proofs.KeyLaws.{levels_none, levels_some, level_end, level_less, level_deeper, level_found, level_missed, keys_itself, keys_variable, keys_context, below_bare, below_none, below_path}
use Rattle.search.proofs.keys.+below_has_entry_has_has.Goals as goal
use Rattle.search.proofs.keys.+below_has_entry_has_has.Goals.{has-else-depth-d-2-via-then-depth-d-2+else-entry_has, has-else-depth-d-2-via-else-depth-d-2}

pub entry_has-returns-then-eq : goal.entry_has-returns-then-eq
entry_has-returns-then-eq t c = rw (← c.at-e.ensures) (sym (keys_itself c.args.text.now (viewed c.at-e.result) _ _ (c.eq.ensures ∙ same_pointwise _ _) c.if-eq.true))

pub entry_has-returns-then-e-from : goal.entry_has-returns-then-e-from
entry_has-returns-then-e-from t c = rw (← c.at-e.ensures) (sym (keys_variable c.args.text.now (viewed c.at-e.result) _ _ (c.eq.ensures ∙ same_pointwise _ _) c.if-eq.false (rw c.from.ensures at c.if-e-from.true)))

pub entry_has-returns : goal.entry_has-returns
entry_has-returns t c = let a = c.args in c.below_has.ensures ∙ rw (← c.at-e.ensures) (sym (keys_context a.text.now (viewed c.at-e.result) _ (levels (a.levels - 1) (a.d + 1)) (c.eq.ensures ∙ same_pointwise _ _) c.if-eq.false (c.if-e-from.false ∙ c.from.ensures)))

pub below_has-overflow_add-below : goal.below_has-overflow_add-below
below_has-overflow_add-below t c = let s = c.args.entries in omega (arith, all_length s.slots.now s.names.now s.paired)

pub below_has-returns-then-has : goal.below_has-returns-then-has
below_has-returns-then-has t c = let a = c.args in sym (below_bare a.text.now (get_or (rows_entries a.entries) a.i no_entry).name _ c.has.ensures c.if-has.true)

pub below_has-returns-in-Some : goal.below_has-returns-in-Some
below_has-returns-in-Some t c = let a = c.args in rw (← c.at.ensures) (below_path a.text.now (viewed c.at.result).name _ c.has.ensures c.if-has.false c.in-Some.ensures c.has-in-Some.ensures)

pub below_has-returns-in-None : goal.below_has-returns-in-None
below_has-returns-in-None t c = let a = c.args in rw (← c.at.ensures) (sym (below_none a.text.now (viewed c.at.result).name _ c.has.ensures c.if-has.false c.in-None.ensures))

pub has-returns-then-levels-eq0 : goal.has-returns-then-levels-eq0
has-returns-then-levels-eq0 t c = let a = c.args in sym (levels_none a.levels a.d (drop a.from (rows_entries a.entries)) a.text.now c.if-levels-eq0.true)

pub has-loop-i-init : goal.has-loop-i-init
has-loop-i-init t c = let a = c.args in ap (member a.text.now) (levels_some a.levels a.d _ c.if-levels-eq0.false)

pub has-returns-then-depth-d : goal.has-returns-then-depth-d
has-returns-then-depth-d t c = let a = c.args in sym (c.loop-i.invariant ∙ level_less a.text.now (levels (a.levels - 1) (a.d + 1)) a.d _ c.loop-i.i c.at-depth.ensures (omega arith) c.if-depth-d.true)

pub has-returns-then-entry_has : goal.has-returns-then-entry_has
has-returns-then-entry_has t c = let a = c.args in sym (c.loop-i.invariant ∙ level_found a.text.now (levels (a.levels - 1) (a.d + 1)) a.d _ c.loop-i.i c.at-depth.ensures (omega arith) c.if-depth-d-2.true c.entry_has.ensures c.if-entry_has.true)

pub has-loop-i-preserved : goal.has-loop-i-preserved
has-loop-i-preserved t c =
    let a = c.args in
    c.loop-i.invariant ∙ elim c.else-depth-d-2.branch [
      | has-else-depth-d-2-via-then-depth-d-2+else-entry_has w ↦ level_missed a.text.now (levels (a.levels - 1) (a.d + 1)) a.d _ c.loop-i.i c.at-depth.ensures (omega arith) w.if-depth-d-2.true w.entry_has.ensures w.if-entry_has.false
      | has-else-depth-d-2-via-else-depth-d-2 w ↦ level_deeper a.text.now (levels (a.levels - 1) (a.d + 1)) a.d _ c.loop-i.i c.at-depth.ensures (omega arith) c.if-depth-d.false w.if-depth-d-2.false
    ]

pub has-returns : goal.has-returns
has-returns t c = let a = c.args in sym (c.loop-i.invariant ∙ level_end a.text.now (levels (a.levels - 1) (a.d + 1)) a.d _ c.loop-i.i (omega arith))
