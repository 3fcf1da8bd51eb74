-- Entries counted where their name is first seen at its level. Among those that nothing replaces there are as many as last ones.
use Rattle.std.specs.Prelude.{ℕ, suc, ◌+◌, Bool, false, cond, ◌&&◌, List, [], ◌∷◌, ltb, leb}
use Rattle.scope.specs.Limits.{max_depth}
use Rattle.scope.specs.Entries.{Entry}
use Rattle.scope.specs.Settled.{is_repeated}

-- 1 for an entry that is not cut off and whose name did not stand before; the earlier entries come nearest first.
unfoldable pub fresh : ℕ → Entry → List Entry → ℕ
fresh cut e before = cond (leb cut e.depth) 0 (cond (is_repeated e before) 0 1)

-- The next entry stands below this one.
unfoldable pub is_above : Entry → List Entry → Bool
is_above e [] = false
is_above e (f ∷ fs) = ltb e.depth f.depth

-- The cut behind an entry: whether it is replaced matters only if something stands below it.
unfoldable pub cut_behind : ℕ → Entry → List Entry → ℕ
cut_behind cut e es = cond (leb cut e.depth) cut (cond (is_above e es && is_repeated e es) (suc e.depth) (suc max_depth))

unfoldable pub firsts : ℕ → List Entry → List Entry → ℕ
firsts cut before [] = 0
firsts cut before (e ∷ es) = fresh cut e before + firsts (cut_behind cut e es) (e ∷ before) es
