-- From n parts down, those longer than m are not found and scratch is as it was.
use Rattle.naming.proofs.PrefixLaws.{Searching}
use Rattle.scope.specs.Keys.{is_name}
use Rattle.scope.specs.Sound.{sound_scope}
use Rattle.lexer.specs.FlagsOf.{flags_of}
use Rattle.naming.proofs.prefix.longest.Given as goal

abbrev pub invariant-loop-m : goal.invariant-loop-m
invariant-loop-m l = Searching (flags_of l.flags) (is_name (sound_scope l.scope)) l.rest l.from l.n l.m l.initial.scratch l.scratch
