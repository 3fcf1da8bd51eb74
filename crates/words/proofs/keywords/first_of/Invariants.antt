-- The search has come to a word that begins as the window does, with its reach.
use lib.ListN.{length}
use Rattle.lexer.specs.FlagsOf.{flags_of}
use Rattle.words.proofs.KeywordLaws.{Searching, left_at}
use Rattle.words.proofs.keywords.first_of.Given as goal

abbrev pub invariant-loop-next : goal.invariant-loop-next
invariant-loop-next l = Searching l.letters l.words l.rest l.w l.r l.i (flags_of l.flags) l.next l.reach

abbrev pub decreases-loop-next : goal.decreases-loop-next
decreases-loop-next l = left_at (length l.words) l.next
