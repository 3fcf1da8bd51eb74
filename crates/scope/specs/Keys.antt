-- The names that a scope holds. 01: nested contexts are flattened level by level, as `flattened_keys` does.
use Rattle.std.specs.Prelude.{ℕ, zero, suc, ◌+◌, ◌*◌, Bool, cond, ◌||◌, List, [], ◌∷◌, ◌++◌, ltb, eqb}
use Rattle.reading.specs.Codes.{codes}
use Rattle.names.specs.Same.{member}
use Rattle.scope.specs.Limits.{max_name, max_depth}
use Rattle.scope.specs.Entries.{Entry, context_kind, ParsingScope}

-- Each key of a nested context, bare and behind the context's name.
unfoldable pub qualified : List ℕ → List (List ℕ) → List (List ℕ)
qualified n [] = []
qualified n (k ∷ ks) = k ∷ (n ++ (codes " . " ++ k)) ∷ qualified n ks

-- The keys of one entry: its name and, of a context, those of the level below, which begins at es.
unfoldable pub keys_of : (List Entry → List (List ℕ)) → Entry → List Entry → List (List ℕ)
keys_of below e es = e.name ∷ cond (eqb e.kind context_kind) (qualified e.name (below es)) []

-- The keys of the entries at depth d, up to the first that is less deep.
unfoldable pub level : (List Entry → List (List ℕ)) → ℕ → List Entry → List (List ℕ)
level below d [] = []
level below d (e ∷ es) = cond (ltb e.depth d) [] (cond (eqb e.depth d) (keys_of below e es ++ level below d es) (level below d es))

-- The keys of so many levels from depth d on.
unfoldable pub levels : ℕ → ℕ → List Entry → List (List ℕ)
levels zero d es = []
levels (suc n) d es = level (levels n (d + 1)) d es

abbrev pub flattened_keys : List Entry → List (List ℕ)
flattened_keys es = levels (suc max_depth) 0 es

-- No key is longer: a name for each of the depths, and " . " between two.
abbrev pub longest_key : ℕ
longest_key = suc max_depth * max_name + max_depth * 3

-- Whether a flattened text is a name here: the one question that the lexer asks of a scope.
unfoldable pub is_name : ParsingScope → List ℕ → Bool
is_name s x = member x s.parsed || member x (flattened_keys s.entries)
