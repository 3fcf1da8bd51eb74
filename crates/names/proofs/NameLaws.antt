-- One way of spelling serves both joinings.
use mathlib.Core.Path.{◌≡◌, refl, ap}
use mathlib.Core.Bool.{Bool, true, false, cond, ◌||◌}
use mathlib.Core.List.{List, [], ◌∷◌, ◌++◌, append-nil}
use Prim.Native.Nat.{ℕ}
use Rattle.names.specs.Name.{is_symbol_text, is_empty, joined}
use Rattle.names.specs.Flatten.{join_by_space}
use Rattle.names.specs.Spelling.{tied, laid, spelled}

-- Joined by spaces.
spelled_space : (p : List ℕ) (ps : List (List ℕ)) → spelled false true (p ∷ ps) ≡ join_by_space (p ∷ ps)
unfolding spelled tied laid
spelled_space p [] = append-nil p
spelled_space p (q ∷ ps) = ap (λ l. p ++ 0x20 ∷ l) (spelled_space q ps)

pub spelled_by_space : (ps : List (List ℕ)) → spelled false true ps ≡ join_by_space ps
unfolding spelled
spelled_by_space [] = refl
spelled_by_space (p ∷ ps) = spelled_space p ps

-- As `Name::new` joins them.
pub spelled-joined : (b : Bool) (ps : List (List ℕ)) → spelled true b ps ≡ joined b ps
unfolding spelled tied laid
spelled-joined b [] = refl
spelled-joined b (p ∷ ps) = ap (cond (b || is_symbol_text p || is_empty p) p (0x20 ∷ p) ++◌) (spelled-joined (is_symbol_text p) ps)
