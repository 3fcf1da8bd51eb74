-- The clauses in the definition's order; what one has ruled out is what the next may take for granted.
use mathlib.Core.Path.{refl, sym, ◌∙◌}
use Rattle.std.proofs.lemmas.Result.{err_from_is_err_and}
use Rattle.scope.specs.Answers.{lent}
use Rattle.scope.proofs.SoundLaws.{broken_over, broken_long, broken_long_parsed, broken_held}
use Rattle.scope.proofs.lent.Lent.checked.Goals as goal

pub returns-then-is_over_limit : goal.returns-then-is_over_limit
returns-then-is_over_limit c = let a = c.args.self in (refl, broken_over (lent a.counts a.slots.now a.names.now) (sym c.is_over_limit.ensures ∙ c.if-is_over_limit.true))

pub returns-in_err-held : goal.returns-in_err-held
returns-in_err-held c =
    let a = c.args.self in
    let p = err_from_is_err_and c.from_residual.result c.from_residual.ensures.1 in
    rw (p.1, p.2) (c.in_err-held.ensures.0, broken_long (lent a.counts a.slots.now a.names.now) (sym c.is_over_limit.ensures ∙ c.if-is_over_limit.false) c.in_err-held.ensures.1)

pub returns-in_err-parsed : goal.returns-in_err-parsed
returns-in_err-parsed c =
    let a = c.args.self in
    let p = err_from_is_err_and c.from_residual-in_err-parsed.result c.from_residual-in_err-parsed.ensures.1 in
    rw (p.1, p.2) (c.in_err-parsed.ensures.0, broken_long_parsed (lent a.counts a.slots.now a.names.now) (sym c.is_over_limit.ensures ∙ c.if-is_over_limit.false) c.in_ok-held.ensures c.in_ok-held.held.short c.in_err-parsed.ensures.1)

pub returns-then-is_broken_scope : goal.returns-then-is_broken_scope
returns-then-is_broken_scope c =
    let a = c.args.self in
    (refl, broken_held (lent a.counts a.slots.now a.names.now) (sym c.is_over_limit.ensures ∙ c.if-is_over_limit.false) c.in_ok-held.ensures c.in_ok-held.held.short c.in_ok-parsed.ensures c.in_ok-parsed.parsed.short c.is_broken_scope.ensures ∙ c.if-is_broken_scope.true)

pub invariant_of-result : goal.invariant_of-result
invariant_of-result c =
    let a = c.args.self in
    record { sound = broken_held (lent a.counts a.slots.now a.names.now) (sym c.is_over_limit.ensures ∙ c.if-is_over_limit.false) c.in_ok-held.ensures c.in_ok-held.held.short c.in_ok-parsed.ensures c.in_ok-parsed.parsed.short c.is_broken_scope.ensures ∙ c.if-is_broken_scope.false }
