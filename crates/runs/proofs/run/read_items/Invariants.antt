-- A loop goes on, item by item, from the start item.
use Prim.Native.Nat.{◌+◌, ◌-◌}
use lib.ListN.{length}
use Rattle.scope.specs.Keys.{is_name}
use Rattle.scope.specs.Sound.{sound_scope}
use Rattle.lexer.specs.FlagsOf.{flags_of}
use Rattle.lexer.specs.Token.{read_token}
use Rattle.runs.specs.Ran.{Stands}
use Rattle.runs.specs.Lending.{Returned}
use Rattle.runs.proofs.run.read_items.Given as goal

abbrev pub invariant-loop-at : goal.invariant-loop-at
invariant-loop-at l = record {
  stands : Stands (read_token (is_name (sound_scope l.scope))) l.start_type (flags_of l.fn.flags) l.text l.fn.room.rows.now l.fn.room.store.now l.at l.room.rows.now l.room.store.now;
  back : Returned l.fn.room l.room;
}

abbrev pub decreases-loop-at : goal.decreases-loop-at
decreases-loop-at l = length l.text + 2 - l.at.counts.items
