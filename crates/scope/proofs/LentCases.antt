-- Lent scopes, sound and broken in each way that 01's 10 names, and the calls on them, computed.
use Prim.Native.Nat.{ℕ, zero, suc}
use Prim.Native.String.{String}
use mathlib.Core.Path.{◌≡◌, refl}
use mathlib.Core.Bool.{Bool, true, false}
use mathlib.Core.List.{List, [], ◌∷◌, ◌++◌, map}
use Rattle.reading.specs.Codes.{codes}
use Rattle.text.specs.Ranges.{among}
use Rattle.text.specs.Classes.{is_scalar}
use Rattle.names.specs.Same.{same, member}
use Rattle.scope.specs.Entries.{ParsingScope}
use Rattle.scope.specs.Settled.{is_repeated, settled_from}
use Rattle.scope.specs.Broken.{all_scalar, is_broken_name, has_parent, is_broken_entry, any_broken, any_repeated, is_broken_set, any_misplaced}
use Rattle.scope.specs.Calls.{Changed, changed, refused, under, top, push, pop, set_context}
use Rattle.scope.specs.Lent.{Lent, held, any_too_long, is_broken, any_outside, on_scope, push_list, set_context_list}

-- A slot or a row of names that is not in use.
abbrev unused : ℕ → List (List ℕ)
unused zero = []
unused (suc n) = (9 ∷ 9 ∷ 9 ∷ 999 ∷ []) ∷ unused n

-- So many contexts, these entries (context, depth, kind, name length and name), these parsed names, and rows behind them.
abbrev slot : ℕ → ℕ → ℕ → String → List ℕ × List ℕ
slot c d k n = (c ∷ d ∷ k ∷ size (codes n) ∷ [], codes n)
  where
    size : List ℕ → ℕ
    size [] = 0
    size (x ∷ xs) = suc (size xs)

abbrev rows : List (List ℕ × List ℕ) → List (List ℕ)
rows [] = []
rows (s ∷ ss) = s.0 ∷ rows ss

abbrev cells : List (List ℕ × List ℕ) → List (List ℕ)
cells [] = []
cells (s ∷ ss) = s.1 ∷ cells ss

abbrev holding : ℕ → ℕ → List (List ℕ × List ℕ) → Lent
holding n count es = record { contexts = n; entries = count; parsed = 0; slots = rows es ++ unused 768; names = cells es ++ unused 768 }

abbrev parsing : ℕ → List (List ℕ × List ℕ) → Lent
parsing count ps = record { contexts = 1; entries = 0; parsed = count; slots = unused 512 ++ rows ps ++ unused 256; names = unused 512 ++ cells ps ++ unused 256 }

-- Sound: fresh, nested, one name in two contexts, an empty context between. Broken: 33 contexts, 513 entries, 257 parsed names; too few rows; a context of 0, beyond the count, falling;
-- a name of 129; a name twice at one level; no parent in its context; a parsed name twice.
unfoldable pub is_broken_lent : Lent → Bool
unfolding is_broken held any_too_long any_misplaced any_broken is_broken_entry has_parent is_broken_name all_scalar is_scalar among any_repeated is_repeated same is_broken_set member
is_broken_lent l = is_broken l

pub sound-lent :
    map is_broken_lent
    (holding 1 0 []
    ∷ holding 0 0 []
    ∷ holding 1 2 (slot 1 0 1 "a" ∷ slot 1 1 0 "a" ∷ [])
    ∷ holding 2 2 (slot 1 0 0 "a" ∷ slot 2 0 0 "a" ∷ [])
    ∷ holding 3 2 (slot 1 0 0 "a" ∷ slot 3 0 0 "a" ∷ [])
    ∷ parsing 2 (slot 0 0 0 "a" ∷ slot 0 0 0 "b" ∷ [])
    ∷ [])
    ≡ false ∷ false ∷ false ∷ false ∷ false ∷ false ∷ []
unfolding is_broken_lent
sound-lent = refl

pub broken-lent :
    map is_broken_lent
    (holding 33 0 []
    ∷ holding 1 513 []
    ∷ record { contexts = 1; entries = 0; parsed = 257; slots = unused 800; names = unused 800 }
    ∷ record { contexts = 1; entries = 0; parsed = 0; slots = unused 767; names = unused 768 }
    ∷ record { contexts = 1; entries = 0; parsed = 0; slots = unused 768; names = unused 767 }
    ∷ holding 1 1 (slot 0 0 0 "a" ∷ [])
    ∷ holding 1 1 (slot 2 0 0 "a" ∷ [])
    ∷ holding 2 2 (slot 2 0 0 "a" ∷ slot 1 0 0 "b" ∷ [])
    ∷ holding 1 1 ((1 ∷ 0 ∷ 0 ∷ 129 ∷ [], []) ∷ [])
    ∷ holding 1 2 (slot 1 0 0 "a" ∷ slot 1 0 1 "a" ∷ [])
    ∷ holding 2 2 (slot 1 0 1 "a" ∷ slot 2 1 0 "b" ∷ [])
    ∷ parsing 2 (slot 0 0 0 "a" ∷ slot 0 0 0 "a" ∷ [])
    ∷ [])
    ≡ true ∷ true ∷ true ∷ true ∷ true ∷ true ∷ true ∷ true ∷ true ∷ true ∷ true ∷ true ∷ []
unfolding is_broken_lent
broken-lent = refl

-- A list is lent as rows of depth, kind, name start and name length; a span outside its cells is 10, and so is any list to a broken scope.
unfoldable pub after : Lent → (ParsingScope → Changed) → Changed
unfolding is_broken_lent is_broken held any_too_long any_misplaced any_broken is_broken_entry has_parent is_broken_name all_scalar is_scalar among any_repeated is_repeated same is_broken_set member push pop set_context under top settled_from any_outside
after l call = on_scope l call

pub list-calls :
    (after (holding 1 0 []) (push_list (codes "abc") ((0 ∷ 1 ∷ 0 ∷ 2 ∷ []) ∷ (1 ∷ 0 ∷ 2 ∷ 1 ∷ []) ∷ []))
    ≡ changed (record { contexts = 2; entries = record { context = 2; depth = 0; kind = 1; name = codes "ab" } ∷ record { context = 2; depth = 1; kind = 0; name = codes "c" } ∷ []; parsed = [] }))
    × (after (holding 1 0 []) (set_context_list (codes "x") (codes "abc") ((0 ∷ 0 ∷ 0 ∷ 2 ∷ []) ∷ []))
    ≡ changed (record { contexts = 1; entries = record { context = 1; depth = 0; kind = 1; name = codes "x" } ∷ record { context = 1; depth = 1; kind = 0; name = codes "ab" } ∷ []; parsed = [] }))
    × (after (holding 1 0 []) (push_list (codes "abc") ((0 ∷ 1 ∷ 2 ∷ 2 ∷ []) ∷ [])) ≡ refused 10)
    × (after (holding 33 0 []) pop ≡ refused 10)
unfolding after
list-calls = (refl, refl, refl, refl)
