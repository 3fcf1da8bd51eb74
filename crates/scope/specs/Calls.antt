-- The scope calls on the model, with 01's refusals: 10, then 11. 01: a limit is exceeded if it would be after the operation.
use Rattle.std.specs.Prelude.{ℕ, suc, ◌-◌, cond, List, [], ◌∷◌, ◌++◌, map, ltb, eqb, length}
use Rattle.text.specs.Refusals.{broken_scope, over_limit}
use Rattle.names.specs.Same.{member}
use Rattle.scope.specs.Limits.{max_contexts, max_entries, max_parsed}
use Rattle.scope.specs.Entries.{Entry, variable, context_kind, ParsingScope}
use Rattle.scope.specs.Settled.{settled}
use Rattle.scope.specs.Broken.{is_broken_name, is_broken_list}

-- What a call answers: the scope after it, or a refusal's number.
pub data Changed : Type 0 where
  changed : ParsingScope → Changed
  refused : ℕ → Changed

-- The entries below context k.
unfoldable pub under : ℕ → List Entry → List Entry
under k [] = []
under k (e ∷ es) = cond (ltb e.context k) (e ∷ under k es) []

-- The entries of context k, the last.
unfoldable pub top : ℕ → List Entry → List Entry
top k [] = []
top k (e ∷ es) = cond (ltb e.context k) (top k es) (e ∷ es)

-- The scope with these contexts and entries, if they keep the limits.
abbrev pub limited : ParsingScope → ℕ → List Entry → Changed
limited s n es =
    cond (ltb max_contexts n) (refused over_limit)
    (cond (ltb max_entries (length es)) (refused over_limit)
    (changed (record { contexts = n; entries = es; parsed = s.parsed })))

-- An entry list is pushed as one context.
unfoldable pub push : List Entry → ParsingScope → Changed
push es s = cond (is_broken_list es) (refused broken_scope) (limited s (suc s.contexts) (s.entries ++ settled es))

abbrev pub push_default : ParsingScope → Changed
push_default s = push [] s

-- 01: popping an empty stack does nothing; parsed names outlive pops.
unfoldable pub pop : ParsingScope → Changed
pop s =
    cond (eqb s.contexts 0) (changed s)
    (changed (record { contexts = s.contexts - 1; entries = under s.contexts s.entries; parsed = s.parsed }))

-- The last context with these entries put behind its own; on an empty stack nothing is done.
abbrev pub added : List Entry → ParsingScope → Changed
added es s =
    cond (eqb s.contexts 0) (changed s)
    (limited s s.contexts (under s.contexts s.entries ++ settled (top s.contexts s.entries ++ es)))

abbrev pub entry : ParsingScope → ℕ → ℕ → List ℕ → Entry
entry s d k n = record { context = s.contexts; depth = d; kind = k; name = n }

unfoldable pub set_entry_name : List ℕ → ParsingScope → Changed
set_entry_name n s = cond (is_broken_name n) (refused broken_scope) (added (entry s 0 variable n ∷ []) s)

abbrev pub deeper : Entry → Entry
deeper e = record { context = e.context; depth = suc e.depth; kind = e.kind; name = e.name }

-- A named context with an entry list, which stands one level deeper.
unfoldable pub set_context : List ℕ → List Entry → ParsingScope → Changed
set_context n es s =
    let new = entry s 0 context_kind n ∷ map deeper es in
    cond (is_broken_list new) (refused broken_scope) (added new s)

-- 01: a set of parsed names; one that is there already changes nothing.
unfoldable pub add_parsed_name : List ℕ → ParsingScope → Changed
add_parsed_name n s =
    cond (is_broken_name n) (refused broken_scope)
    (cond (member n s.parsed) (changed s)
    (cond (ltb max_parsed (suc (length s.parsed))) (refused over_limit)
    (changed (record { contexts = s.contexts; entries = s.entries; parsed = s.parsed ++ (n ∷ []) }))))
