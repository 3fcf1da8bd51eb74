-- Keys, replacing, parents, calls and limits, computed.
use Prim.Native.Nat.{ℕ, zero, suc}
use Prim.Native.String.{String}
use mathlib.Core.Path.{◌≡◌, refl}
use mathlib.Core.Bool.{true, false}
use mathlib.Core.List.{List, [], ◌∷◌, map}
use Rattle.reading.specs.Codes.{codes}
use Rattle.text.specs.Ranges.{among}
use Rattle.text.specs.Classes.{is_scalar}
use Rattle.names.specs.Same.{same, member}
use Rattle.scope.specs.Entries.{Entry, variable, context_kind, ParsingScope, opened}
use Rattle.scope.specs.Settled.{is_repeated, settled_from, settled}
use Rattle.scope.specs.Keys.{qualified, keys_of, level, levels, flattened_keys, is_name}
use Rattle.scope.specs.Broken.{all_scalar, is_broken_name, has_parent, is_broken_entry, any_broken, is_broken_list}
use Rattle.scope.specs.Calls.{Changed, changed, refused, under, top, push, push_default, pop, set_entry_name, set_context, add_parsed_name}

abbrev at : ℕ → ℕ → ℕ → String → Entry
at c d k n = record { context = c; depth = d; kind = k; name = codes n }

-- In context 1: a variable and a context.
abbrev var : ℕ → String → Entry
var d n = at 1 d variable n

abbrev con : ℕ → String → Entry
con d n = at 1 d context_kind n

-- a { b, c { d } }, d
pub keys_nested : flattened_keys (con 0 "a" ∷ var 1 "b" ∷ con 1 "c" ∷ var 2 "d" ∷ var 0 "d" ∷ [])
    ≡ map codes ("a" ∷ "b" ∷ "a . b" ∷ "c" ∷ "a . c" ∷ "d" ∷ "a . d" ∷ "c . d" ∷ "a . c . d" ∷ "d" ∷ [])
unfolding levels level keys_of qualified
keys_nested = refl

-- A repeat goes with all below it; a name under another parent or in another context is no repeat.
pub settled-cases :
    map settled
    ((con 0 "a" ∷ var 1 "b" ∷ var 0 "c" ∷ var 0 "a" ∷ [])
    ∷ (con 0 "a" ∷ var 1 "b" ∷ con 1 "b" ∷ var 2 "c" ∷ var 1 "d" ∷ [])
    ∷ (con 0 "a" ∷ var 1 "x" ∷ con 0 "b" ∷ var 1 "x" ∷ [])
    ∷ (con 0 "a" ∷ con 1 "b" ∷ var 2 "c" ∷ con 0 "a" ∷ var 1 "d" ∷ [])
    ∷ [])
    ≡ (var 0 "c" ∷ var 0 "a" ∷ [])
    ∷ (con 0 "a" ∷ con 1 "b" ∷ var 2 "c" ∷ var 1 "d" ∷ [])
    ∷ (con 0 "a" ∷ var 1 "x" ∷ con 0 "b" ∷ var 1 "x" ∷ [])
    ∷ (con 0 "a" ∷ var 1 "d" ∷ [])
    ∷ []
unfolding settled_from is_repeated same
settled-cases = refl

-- Sound: nested, back to a sibling. Broken: no parent, a variable as parent, a level left out, a variable before it, kind 2, a surrogate in a name.
pub broken-cases :
    map is_broken_list
    ((con 0 "a" ∷ con 1 "b" ∷ var 2 "c" ∷ var 1 "d" ∷ var 0 "" ∷ [])
    ∷ (var 1 "a" ∷ [])
    ∷ (var 0 "a" ∷ var 1 "b" ∷ [])
    ∷ (con 0 "a" ∷ var 2 "b" ∷ [])
    ∷ (con 0 "a" ∷ var 0 "b" ∷ var 1 "c" ∷ [])
    ∷ (at 1 0 2 "a" ∷ [])
    ∷ (record { context = 1; depth = 0; kind = 0; name = 0xD800 ∷ [] } ∷ [])
    ∷ [])
    ≡ false ∷ true ∷ true ∷ true ∷ true ∷ true ∷ true ∷ []
unfolding any_broken is_broken_entry has_parent is_broken_name all_scalar is_scalar among
broken-cases = refl

-- A context of each depth, each below the one before: with nothing below the last it is sound, and an entry of depth 8, whose parent is a context, breaks it by its depth alone.
abbrev chain : List Entry → List Entry
chain es = con 0 "a" ∷ con 1 "b" ∷ con 2 "c" ∷ con 3 "d" ∷ con 4 "e" ∷ con 5 "f" ∷ con 6 "g" ∷ con 7 "h" ∷ es

pub depth-cases :
    (map is_broken_list (chain [] ∷ chain (var 8 "i" ∷ []) ∷ []) ≡ false ∷ true ∷ [])
    × (has_parent (var 8 "i") (con 7 "h" ∷ []) ≡ true)
unfolding any_broken is_broken_entry has_parent is_broken_name all_scalar is_scalar among
depth-cases = (refl, refl)

abbrev then : Changed → (ParsingScope → Changed) → Changed
then (changed s) call = call s
then (refused n) call = refused n

-- Popping gives back what pushing put there, and keeps the parsed names; naming replaces a context with what is below it.
pub call-cases :
    (then (then (then (set_entry_name (codes "a") opened) (push (at 2 0 0 "b" ∷ []))) (add_parsed_name (codes "p"))) pop
    ≡ changed (record { contexts = 1; entries = var 0 "a" ∷ []; parsed = codes "p" ∷ [] }))
    × (then (set_context (codes "a") (var 0 "b" ∷ []) opened) (set_entry_name (codes "a"))
    ≡ changed (record { contexts = 1; entries = var 0 "a" ∷ []; parsed = [] }))
    × (then (then (pop opened) pop) (set_entry_name (codes "a")) ≡ changed (record { contexts = 0; entries = []; parsed = [] }))
    × (then (add_parsed_name (codes "p") opened) (add_parsed_name (codes "p")) ≡ changed (record { contexts = 1; entries = []; parsed = codes "p" ∷ [] }))
    × (set_context (codes "a") (con 0 "1" ∷ con 1 "2" ∷ con 2 "3" ∷ con 3 "4" ∷ con 4 "5" ∷ con 5 "6" ∷ con 6 "7" ∷ var 7 "8" ∷ []) opened ≡ refused 10)
unfolding push pop set_entry_name set_context add_parsed_name under top settled_from is_repeated same member any_broken is_broken_entry has_parent is_broken_name all_scalar is_scalar among
call-cases = (refl, refl, refl, refl, refl)

-- The 33rd context is over the limit.
abbrev pushed_times : ℕ → Changed → Changed
pushed_times zero c = c
pushed_times (suc k) c = pushed_times k (then c push_default)

pub context_limit : (pushed_times 31 (changed opened) ≡ changed (record { contexts = 32; entries = []; parsed = [] })) × (pushed_times 32 (changed opened) ≡ refused 11)
unfolding push settled_from any_broken
context_limit = (refl, refl)

-- A scope is asked for its names by their whole text.
pub name_cases :
    map (λ n. is_name (record { contexts = 1; entries = con 0 "a" ∷ var 1 "b c" ∷ []; parsed = codes "p" ∷ [] }) (codes n)) ("a" ∷ "b c" ∷ "a . b c" ∷ "p" ∷ "b" ∷ "a.b c" ∷ "" ∷ [])
    ≡ true ∷ true ∷ true ∷ true ∷ false ∷ false ∷ false ∷ []
unfolding is_name member same levels level keys_of qualified
name_cases = refl
