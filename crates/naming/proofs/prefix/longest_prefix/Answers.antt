-- What is longer than the bound is not found, so the search below it is the whole search.
use Rattle.lexer.specs.FlagsOf.{flags_of}
use Rattle.naming.proofs.PrefixLaws.{capped, bounded}
use Rattle.naming.proofs.prefix.longest_prefix.Goals as goal

pub returns-clause-longest : goal.returns-clause-longest
returns-clause-longest c = bounded (c.bound-m.ensures.so _ (capped c.args.known.now.capped (flags_of c.args.flags) c.longest_text-c.ensures)) c.longest.ensures.longest
