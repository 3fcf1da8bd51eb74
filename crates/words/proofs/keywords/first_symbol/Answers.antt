-- The window begins with the one character.
use mathlib.Core.Path.{refl, ap}
use mathlib.Core.List.{[], ◌∷◌}
use Prim.Native.Nat.{ℕ}
use native.Mathlib.Omega.{arith}
use Rattle.lexer.specs.FlagsOf.{flags_of}
use Rattle.lexer.specs.Shown.{window_of}
use Rattle.lexer.specs.Window.{symbols}
use Rattle.words.proofs.KeywordLaws.{sign_matched}
use Rattle.words.proofs.keywords.first_symbol.Goals as goal

pub returns : goal.returns
unfolding window_of symbols
returns c =
    sign_matched symbols _ 1 11 refl c.args.rest.now c.args.i c.args.r (flags_of c.args.flags) (ap (λ (x : ℕ). x ∷ []) c.requires.2) (omega arith) (omega arith) (omega arith) (omega arith)
    _ c.symbol.ensures c.of_sign.ensures.0 c.of_sign.ensures.1
