-- Each number is the most that a name passed adds at its depth.
use mathlib.Core.Path.{sym, ◌∙◌}
use mathlib.Core.List.{[]}
use Prim.Native.Nat.{◌≤◌}
use native.Mathlib.Omega.{arith}
use lib.ListN.{length}
use Rattle.scope.specs.Limits.{max_name, max_depth}
use Rattle.scope.specs.Answers.{lent}
use Rattle.scope.specs.Sound.{rows_entries}
use Rattle.scope.proofs.SoundLaws.{sound}
use Rattle.scope.proofs.BrokenLaws.{ranged, broken_all}
use Rattle.search.proofs.WidthLaws.{short_held, seen_none, seen_more, widths_none, widths_more, widths_value, widths_within}
use Rattle.search.proofs.longest.widest.Goals as goal
use Rattle.search.proofs.longest.widest.Goals.{After-at-e}

-- The entry read is not broken.
in_range : (c : After-at-e) → (c.at-e.result.depth ≤ max_depth) × (length c.at-e.result.name.now ≤ max_name)
in_range c =
    let a = c.args.scope in
    let es = rows_entries c.entries-entries.result in
    let s = sound (lent a.counts a.slots.now a.names.now) a.sound in
    let r = ranged max_depth [] es (sym (broken_all [] es) ∙ rw c.entries-entries.ensures s.unbroken) c.loop-i.i (omega arith) in
    (rw (← c.at-e.ensures) at r.shallow, rw (← c.at-e.ensures) at (short_held c.entries-entries.result c.loop-i.i (omega arith)))

pub loop-i-init : goal.loop-i-init
loop-i-init c = let es = rows_entries c.entries-entries.result in record { seen = seen_none es; widths = widths_none es }

pub bounds-widest-depth : goal.bounds-widest-depth
bounds-widest-depth c = let r = in_range c in omega arith

pub bounds-widest-depth-in-loop-i : goal.bounds-widest-depth-in-loop-i
bounds-widest-depth-in-loop-i c = let r = in_range ((goal.at.bounds-widest-depth-in-loop-i c).After-at-e) in omega arith

pub loop-i-preserved : goal.loop-i-preserved
loop-i-preserved c =
    let r = in_range ((goal.at.loop-i-preserved c).After-at-e) in
    let s = c.loop-i.invariant.seen in
    let n = s.small c.at-e.result.depth in
    record {
      seen = seen_more _ c.loop-i.i c.loop-i.widest _ s c.at-e.ensures r.0 (omega arith) (omega arith) (omega (arith, n));
      widths = widths_more _ c.loop-i.i c.loop-i.widest _ c.loop-i.invariant.widths c.at-e.ensures r.0 (omega arith) (omega (arith, n));
    }

pub returns : goal.returns
returns c =
    let es = rows_entries c.entries-entries.result in
    record {
      value = rw (← c.entries-entries.ensures) (widths_value es c.loop-i.invariant.widths (omega arith));
      within = widths_within es c.loop-i.invariant.widths;
    }
