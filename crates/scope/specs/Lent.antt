-- A scope and an entry list as they are lent: rows of numbers and rows of name cells.
use Rattle.std.specs.Prelude.{ℕ, zero, suc, ◌+◌, Bool, false, cond, ◌||◌, List, [], ◌∷◌, map, ltb, length, get_or, take, drop}
use Rattle.text.specs.Refusals.{broken_scope}
use Rattle.scope.specs.Limits.{max_contexts, max_entries, max_parsed, max_name}
use Rattle.scope.specs.Entries.{Entry, ParsingScope}
use Rattle.scope.specs.Broken.{is_broken_scope}
use Rattle.scope.specs.Calls.{Changed, refused, push, set_context}

-- Three counts; slots of an entry's context, depth, kind and name length; for each slot a row of 128 name cells.
-- Slots 0 to 511 are entries, 512 to 767 parsed names, which use the length alone.
-- Never read are a parsed name's other three numbers, the cells behind a name's length, and the rows that are not in use.
pub record Lent : Type 0 where
  pub contexts : ℕ
  pub entries : ℕ
  pub parsed : ℕ
  pub slots : List (List ℕ)
  pub names : List (List ℕ)

abbrev pub entry_of : List ℕ → List ℕ → Entry
entry_of s n = record { context = get_or s 0 0; depth = get_or s 1 0; kind = get_or s 2 0; name = take (get_or s 3 0) n }

-- The first so many slots with their names.
unfoldable pub held : ℕ → List (List ℕ) → List (List ℕ) → List Entry
held zero ss ns = []
held (suc k) [] ns = []
held (suc k) (s ∷ ss) [] = []
held (suc k) (s ∷ ss) (n ∷ ns) = entry_of s n ∷ held k ss ns

abbrev pub held_parsed : Lent → List Entry
held_parsed l = held l.parsed (drop max_entries l.slots) (drop max_entries l.names)

-- The scope that is lent.
abbrev pub scope_of : Lent → ParsingScope
scope_of l = record { contexts = l.contexts; entries = held l.entries l.slots l.names; parsed = map (λ e. e.name) (held_parsed l) }

-- A name length that its row of cells does not have.
unfoldable pub any_too_long : ℕ → List (List ℕ) → Bool
any_too_long zero ss = false
any_too_long (suc k) [] = false
any_too_long (suc k) (s ∷ ss) = ltb max_name (get_or s 3 0) || any_too_long k ss

-- 01's 10 of a lent scope: over a limit, too few rows, an entry or a name broken, a name twice at one level or twice among the parsed names.
unfoldable pub is_broken : Lent → Bool
is_broken l =
    ltb max_contexts l.contexts || ltb max_entries l.entries || ltb max_parsed l.parsed
    || ltb (length l.slots) (max_entries + max_parsed) || ltb (length l.names) (max_entries + max_parsed)
    || any_too_long l.entries l.slots || any_too_long l.parsed (drop max_entries l.slots)
    || is_broken_scope (scope_of l)

-- A lent entry list: rows of depth, kind, name start and name length, and the cells that the names are spans of.
abbrev pub spanned : ℕ → List ℕ → List ℕ → Entry
spanned k cells r = record { context = k; depth = get_or r 0 0; kind = get_or r 1 0; name = take (get_or r 3 0) (drop (get_or r 2 0) cells) }

-- Its entries, for the context k.
abbrev pub listed : ℕ → List ℕ → List (List ℕ) → List Entry
listed k cells rows = map (spanned k cells) rows

-- A name span outside its slice.
unfoldable pub any_outside : List ℕ → List (List ℕ) → Bool
any_outside cells [] = false
any_outside cells (r ∷ rs) = ltb (length cells) (get_or r 2 0 + get_or r 3 0) || any_outside cells rs

-- Every call that is lent a scope checks it first.
abbrev pub on_scope : Lent → (ParsingScope → Changed) → Changed
on_scope l call = cond (is_broken l) (refused broken_scope) (call (scope_of l))

-- The two calls that are lent a list see to its spans, too.
abbrev pub push_list : List ℕ → List (List ℕ) → ParsingScope → Changed
push_list cells rows s = cond (any_outside cells rows) (refused broken_scope) (push (listed (suc s.contexts) cells rows) s)

abbrev pub set_context_list : List ℕ → List ℕ → List (List ℕ) → ParsingScope → Changed
set_context_list n cells rows s = cond (any_outside cells rows) (refused broken_scope) (set_context n (listed s.contexts cells rows) s)
