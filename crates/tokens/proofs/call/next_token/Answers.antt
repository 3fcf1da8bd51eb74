-- Scratch is cleared first, so that a refused call leaves it zero, too.
use mathlib.Core.Path.{◌∙◌, sym, refl}
use lib.ListN.{length}
use native.Mathlib.Omega.{arith}
use Rattle.naming.proofs.PrefixLaws.{filled}
use Rattle.tokens.specs.CalledBy.{lent_of}
use Rattle.tokens.proofs.CallLaws.{accepted, call_refused, call_made}
use Rattle.tokens.proofs.call.next_token.Goals as goal

pub step-requires : goal.step-requires
step-requires c =
    let x = c.args in
    let a = rw c.in-Ok.is at c.admitted.ensures in
    let b = accepted (lent_of x.scope) x.l.position (length x.text.now) (length x.out.now) (length c.fill.new.self) a.0 in
    (b.0, b.1, omega (arith, b.2), record { room = omega (arith, b.3); clean = record { all = filled (c.fill.ensures.after (λ y e. e)) (sym c.fill.ensures.len) } })

pub returns-in-Ok : goal.returns-in-Ok
returns-in-Ok c =
    let x = c.args in
    let a = rw c.in-Ok.is at c.admitted.ensures in
    call_made (lent_of x.scope) x.l x.text.now x.out.now x.scratch.now (c.step.ensures.1 ∙ filled (c.fill.ensures.after (λ y e. e)) refl) (rw c.fill.ensures.len at a.0) a.1 c.step.ensures.0

pub returns-in-Err : goal.returns-in-Err
returns-in-Err c =
    let x = c.args in
    let a = rw c.in-Err.is at c.admitted.ensures in
    call_refused (lent_of x.scope) x.l x.text.now x.out.now x.scratch.now (filled (c.fill.ensures.after (λ y e. e)) refl) _ (rw c.fill.ensures.len at a)
