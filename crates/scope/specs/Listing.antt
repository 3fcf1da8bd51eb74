-- What the walk over a lent entry list decides, row by row.
use Rattle.std.specs.Prelude.{ℕ, suc, ◌+◌, Bool, false, cond, ◌&&◌, ◌||◌, not, List, [], ◌∷◌, ltb, leb}
use Rattle.scope.specs.Limits.{max_depth}
use Rattle.scope.specs.Entries.{Entry, context_kind}
use Rattle.scope.specs.Settled.{is_repeated}
use Rattle.scope.specs.Broken.{is_broken_name, has_parent}

-- An entry is broken where depths up to `most` are in range.
unfoldable pub is_broken_to : ℕ → Entry → List Entry → Bool
is_broken_to most e before =
    ltb most e.depth || ltb context_kind e.kind || (ltb 0 e.depth && not (has_parent e before)) || is_broken_name e.name

unfoldable pub any_broken_to : ℕ → List Entry → List Entry → Bool
any_broken_to most before [] = false
any_broken_to most before (e ∷ es) = is_broken_to most e before || any_broken_to most (e ∷ before) es

-- Whether the entry stays, where all of depth cut or deeper goes.
unfoldable pub stays : ℕ → Entry → List Entry → Bool
stays cut e es = not (leb cut e.depth) && not (is_repeated e es)

-- The cut behind it.
unfoldable pub cut_after : ℕ → ℕ → Bool → ℕ
cut_after cut d kept = cond kept (suc max_depth) (cond (leb cut d) cut (suc d))

unfoldable pub keep : Bool → Entry → List Entry
keep kept e = cond kept (e ∷ []) []

-- An entry that stands so much deeper.
abbrev pub raised : ℕ → Entry → Entry
raised up e = record { context = e.context; depth = e.depth + up; kind = e.kind; name = e.name }
