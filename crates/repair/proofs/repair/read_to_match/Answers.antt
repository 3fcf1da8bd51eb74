-- The loop stands before the next fresh item; it ends at the first match, or behind the item that ends the run.
use Rattle.std.proofs.Common.{rules}
use borrow.Author.Tests.{not-true, not-false}
use mathlib.Core.Path.{refl, ◌∙◌}
use native.Mathlib.Omega.{arith}
use Rattle.repair.proofs.FreshLaws.{seeking_none, seeking_end, seeking_match, seeking_more}
use Rattle.repair.proofs.repair.read_to_match.Goals as goal

pub loop-at-init : goal.loop-at-init
loop-at-init c = record { seeking = seeking_none (omega (arith, c.requires.1)) (omega (arith, c.requires.2)); back = search rules }

pub returns-then-is_match-clause-to_match : goal.returns-then-is_match-clause-to_match
returns-then-is_match-clause-to_match c = seeking_match c.loop-at.invariant.seeking (not-true _ c.loop-at-test.true) (c.is_match.ensures.found c.if-is_match.true) refl refl

pub loop-at-preserved : goal.loop-at-preserved
loop-at-preserved c =
    let i = c.loop-at.invariant.seeking in
    let going = not-true _ c.loop-at-test.true in
    let f = i.few going in
    let fresh = rw c.of-known.ensures at c.read_fresh-at.ensures.fresh in
    record {
      seeking = seeking_more i going c.pass_old-j.ensures.0 (c.is_match.ensures.missed c.if-is_match.false) fresh (omega (arith, i.behind.count, i.behind.as_many, f, i.within, c.requires.1)) (omega (arith, i.behind.cells, i.behind.as_long, i.short, i.within, c.requires.2));
      back = record { same = search rules; clean = c.read_fresh-at.ensures.back.clean ∙ c.loop-at.invariant.back.clean };
    }

pub returns-clause-to_match : goal.returns-clause-to_match
returns-clause-to_match c = seeking_end c.loop-at.invariant.seeking (not-false _ c.loop-at-test.false) refl refl
