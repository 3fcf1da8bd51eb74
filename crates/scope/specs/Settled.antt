-- 01: a name repeated at one level replaces the earlier entry with all below it.
use Rattle.std.specs.Prelude.{ℕ, suc, Bool, false, cond, ◌&&◌, ◌||◌, not, List, [], ◌∷◌, ltb, leb, eqb}
use Rattle.names.specs.Same.{same}
use Rattle.scope.specs.Limits.{max_depth}
use Rattle.scope.specs.Entries.{Entry}

-- The name stands again at the entry's level: in its context, at its depth, before the first entry that is less deep.
unfoldable pub is_repeated : Entry → List Entry → Bool
is_repeated e [] = false
is_repeated e (f ∷ fs) =
    cond (not (eqb f.context e.context) || ltb f.depth e.depth) false ((eqb f.depth e.depth && same f.name e.name) || is_repeated e fs)

-- The entries less those that a later one replaces; behind a replaced one all of depth cut or deeper goes with it.
unfoldable pub settled_from : ℕ → List Entry → List Entry
settled_from cut [] = []
settled_from cut (e ∷ es) =
    cond (leb cut e.depth) (settled_from cut es)
    (cond (is_repeated e es) (settled_from (suc e.depth) es) (e ∷ settled_from (suc max_depth) es))

abbrev pub settled : List Entry → List Entry
settled es = settled_from (suc max_depth) es
