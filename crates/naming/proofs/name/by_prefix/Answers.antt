-- The prefix found, by its number of parts, is the definition's.
use mathlib.Core.Path.{refl}
use native.Mathlib.Omega.{arith}
use Rattle.scope.specs.Keys.{is_name}
use Rattle.scope.specs.Sound.{sound_scope}
use Rattle.naming.proofs.NamingLaws.{longest_less, prefix_none, prefix_found, gives_as}
use Rattle.naming.proofs.name.by_prefix.Goals as goal
use Rattle.naming.proofs.name.by_prefix.Goals.{in-Property, in-Name}

pub returns-in_default : goal.returns-in_default
returns-in_default c =
    let l = rw c.in_default.is at c.longest_prefix.ensures.longest in
    (gives_as (prefix_none l c.args.name.counted refl) (c.all_parts.ensures (is_name (sound_scope c.args.known.now.scope))), c.longest_prefix.ensures.clean)

pub cut_at-requires : goal.cut_at-requires
cut_at-requires c =
    let u = longest_less (rw c.in-Some.is at c.longest_prefix.ensures.longest) in
    (rw c.in-Some.is at c.longest_prefix.ensures.some, omega arith, c.requires.0)

pub returns : goal.returns
returns c =
    let l = rw c.in-Some.is at c.longest_prefix.ensures.longest in (
      prefix_found l c.args.name.counted (rw c.in-Some.is at c.longest_prefix.ensures.some) (elim c.match-p.branch [
        | in-Property w ↦ rw (w.after-is, w.in-Property.is) w.clear-after.ensures
        | in-Name w ↦ rw (w.after-is, w.in-Name.is)
      ]) c.cut_at.ensures,
      c.longest_prefix.ensures.clean,
    )
