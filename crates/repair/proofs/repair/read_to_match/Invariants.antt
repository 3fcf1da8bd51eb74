-- The loop stands before the next fresh item; it ends at the first match, or behind the item that ends the run.
use Prim.Native.Nat.{◌+◌, ◌-◌}
use lib.ListN.{length}
use Rattle.scope.specs.Keys.{is_name}
use Rattle.scope.specs.Sound.{sound_scope}
use Rattle.lexer.specs.FlagsOf.{flags_of}
use Rattle.lexer.specs.Token.{read_token}
use Rattle.runs.specs.Copied.{edit_of}
use Rattle.runs.specs.Lending.{Returned}
use Rattle.repair.proofs.FreshLaws.{Seeking}
use Rattle.repair.proofs.repair.read_to_match.Given as goal

abbrev pub invariant-loop-at : goal.invariant-loop-at
invariant-loop-at l = record {
  seeking : Seeking (read_token (is_name (sound_scope l.scope))) (edit_of l.e) l.old_rows l.part l.base (flags_of l.fn.flags) l.fn.kept.items l.fn.kept.cells l.fn.room.rows.now l.fn.room.store.now l.j l.at l.room.rows.now l.room.store.now;
  back : Returned l.fn.room l.room;
}

abbrev pub decreases-loop-at : goal.decreases-loop-at
decreases-loop-at l =
    l.fn.kept.items + (length l.part + 2) - l.at.counts.items
