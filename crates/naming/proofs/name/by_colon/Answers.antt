-- A colon is looked at before any prefix is tried.
use Rattle.scope.specs.Sound.{sound_scope}
use Rattle.scope.specs.Keys.{is_name}
use Rattle.lexer.specs.FlagsOf.{flags_of}
use Rattle.naming.proofs.NamingLaws.{colon_there, colon_not, gives_as}
use mathlib.Core.Path.{refl}
use Rattle.naming.proofs.name.by_colon.Goals as goal

pub returns-then-is_at : goal.returns-then-is_at
returns-then-is_at c = let x = c.args in let n = x.name in (gives_as (colon_there (flags_of x.flags) (is_name (sound_scope x.known.now.scope)) n.rest.now n.from n.parts n.end c.is_at.ensures c.if-is_at.true) c.named.ensures, refl)

pub returns : goal.returns
returns c = let x = c.args in let n = x.name in (gives_as (colon_not (flags_of x.flags) (is_name (sound_scope x.known.now.scope)) n.rest.now n.from n.parts n.end c.is_at.ensures c.if-is_at.false) c.by_prefix.ensures.0, c.by_prefix.ensures.1)
