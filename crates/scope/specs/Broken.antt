-- What 01 calls broken (10) in entries and names.
use Rattle.std.specs.Prelude.{ℕ, suc, Bool, true, false, cond, ◌&&◌, ◌||◌, not, List, [], ◌∷◌, ltb, eqb, length}
use Rattle.text.specs.Classes.{is_scalar}
use Rattle.names.specs.Same.{member}
use Rattle.scope.specs.Limits.{max_name, max_depth}
use Rattle.scope.specs.Entries.{Entry, context_kind, ParsingScope}
use Rattle.scope.specs.Settled.{is_repeated}

unfoldable pub all_scalar : List ℕ → Bool
all_scalar [] = true
all_scalar (c ∷ cs) = is_scalar c && all_scalar cs

-- A name: at most 128 characters, each a scalar value; empty is allowed.
unfoldable pub is_broken_name : List ℕ → Bool
is_broken_name n = ltb max_name (length n) || not (all_scalar n)

-- 01: depth k above 0 belongs to the nearest earlier entry of depth k - 1, which must be a context, with no lower depth between.
-- The earlier entries come nearest first; those of another context are none.
unfoldable pub has_parent : Entry → List Entry → Bool
has_parent e [] = false
has_parent e (f ∷ fs) =
    cond (not (eqb f.context e.context)) false
    (cond (eqb (suc f.depth) e.depth) (eqb f.kind context_kind)
    (cond (ltb f.depth e.depth) false (has_parent e fs)))

-- Depth or kind out of range, no parent, or a broken name.
unfoldable pub is_broken_entry : Entry → List Entry → Bool
is_broken_entry e earlier =
    ltb max_depth e.depth || ltb context_kind e.kind || (ltb 0 e.depth && not (has_parent e earlier)) || is_broken_name e.name

unfoldable pub any_broken : List Entry → List Entry → Bool
any_broken earlier [] = false
any_broken earlier (e ∷ es) = is_broken_entry e earlier || any_broken (e ∷ earlier) es

-- An entry list: one of its entries is broken.
abbrev pub is_broken_list : List Entry → Bool
is_broken_list es = any_broken [] es

-- A name stands twice at one level.
unfoldable pub any_repeated : List Entry → Bool
any_repeated [] = false
any_repeated (e ∷ es) = is_repeated e es || any_repeated es

-- A parsed name is broken, or there twice.
unfoldable pub is_broken_set : List (List ℕ) → Bool
is_broken_set [] = false
is_broken_set (n ∷ ns) = is_broken_name n || member n ns || is_broken_set ns

-- The contexts of the entries rise, from `from` on, and stay within the count.
unfoldable pub any_misplaced : ℕ → ℕ → List Entry → Bool
any_misplaced count from [] = false
any_misplaced count from (e ∷ es) = ltb e.context from || ltb count e.context || any_misplaced count e.context es

-- What makes a scope broken, in whatever rows it is lent.
abbrev pub is_broken_scope : ParsingScope → Bool
is_broken_scope s = any_misplaced s.contexts 1 s.entries || is_broken_list s.entries || any_repeated s.entries || is_broken_set s.parsed
