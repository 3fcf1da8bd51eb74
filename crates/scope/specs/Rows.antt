-- Lent rows by their index.
use Rattle.std.specs.Prelude.{ℕ, zero, suc, List, [], ◌∷◌, map, length, get_or, drop}
use Rattle.scope.specs.Limits.{max_entries}
use Rattle.scope.specs.Entries.{Entry}
use Rattle.scope.specs.Lent.{entry_of, held}

-- The entry in slot i.
abbrev pub entry_at : List (List ℕ) → List (List ℕ) → ℕ → Entry
entry_at ss ns i = entry_of (get_or ss i []) (get_or ns i [])

-- The entries of paired rows.
abbrev pub all_held : List (List ℕ) → List (List ℕ) → List Entry
all_held ss ns = held (length ss) ss ns

-- The name length in slot i.
abbrev pub name_length : List (List ℕ) → ℕ → ℕ
name_length ss i = get_or (get_or ss i []) 3 0

-- The first i entries, nearest first, in front of those given.
unfoldable pub earlier : ℕ → List Entry → List Entry → List Entry
earlier zero es before = before
earlier (suc i) [] before = before
earlier (suc i) (e ∷ es) before = earlier i es (e ∷ before)

-- So many parsed names.
abbrev pub parsed_names : ℕ → List (List ℕ) → List (List ℕ) → List (List ℕ)
parsed_names k ss ns = map (λ e. e.name) (held k (drop max_entries ss) (drop max_entries ns))
