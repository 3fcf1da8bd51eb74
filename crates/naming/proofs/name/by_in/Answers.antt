-- The parts before `in`, or the other decisions where there is none.
use borrow.Author.Tests.{not-false}
use mathlib.Core.Path.{refl}
use native.Mathlib.Omega.{arith}
use Rattle.scope.specs.Keys.{is_name}
use Rattle.scope.specs.Sound.{sound_scope}
use Rattle.lexer.specs.FlagsOf.{flags_of}
use Rattle.naming.proofs.CutLaws.{prefix_many}
use Rattle.naming.proofs.NamingLaws.{in_first, in_later, gives_as, gives_flags}
use Rattle.naming.proofs.name.by_in.Goals as goal

pub returns-in-Some-eq0 : goal.returns-in-Some-eq0
returns-in-Some-eq0 c =
    let x = c.args in
    let n = x.name in
    let b = rw c.in-Some-eq0.is at c.before_in.ensures in
    (gives_as (in_first (flags_of x.flags) (is_name (sound_scope x.known.now.scope)) n.rest.now n.from n.parts n.end (not-false _ c.if-not-flags.false) b (omega arith)) (record { read = refl; used = refl; flags = refl; looked = refl; left = refl }), refl)

pub returns-in-Some : goal.returns-in-Some
returns-in-Some c =
    let x = c.args in
    let n = x.name in
    let b = rw c.in-Some.is at c.before_in.ensures in
    let e = in_later (flags_of x.flags) (is_name (sound_scope x.known.now.scope)) n.rest.now n.from n.parts n.end (not-false _ c.if-not-flags.false) b (omega arith) (prefix_many _ _ _ _ n.counted.count (omega (arith, b.0))) in
    (gives_as e (gives_flags c.clear.ensures c.cut_at.ensures), refl)
