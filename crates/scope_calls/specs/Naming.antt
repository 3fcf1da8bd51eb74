-- Entries without the one of a name at depth 0, and all below it.
use Rattle.std.specs.Prelude.{ℕ, ◌+◌, ◌<◌, ◌≤◌, ◌≡◌, Bool, ◌&&◌, not, List, [], ◌∷◌, ◌++◌, map, leb, eqb, drop, length}
use Rattle.names.specs.Same.{same}
use Rattle.scope.specs.Limits.{max_name}
use Rattle.scope.specs.Entries.{Entry}
use Rattle.scope.specs.Calls.{deeper}
use Rattle.scope.specs.Lent.{held}
use Rattle.scope.specs.Rows.{name_length}
use Rattle.scope.specs.Listing.{cut_after, keep}

-- Whether the entry stays beside a new one of this name at depth 0.
unfoldable pub stays_beside : ℕ → Entry → List ℕ → Bool
stays_beside cut e n = not (leb cut e.depth) && not (eqb e.depth 0 && same e.name n)

unfoldable pub without : ℕ → List ℕ → List Entry → List Entry
without cut n [] = []
without cut n (e ∷ es) = keep (stays_beside cut e n) e ++ without (cut_after cut e.depth (stays_beside cut e n)) n es

-- An entry at depth 0 and a list one level deeper behind it, as both calls put them into the last context.
abbrev pub headed : ℕ → ℕ → List ℕ → List Entry → List Entry
headed c kind n es = record { context = c; depth = 0; kind = kind; name = n } ∷ map deeper es

-- Rows were moved down: up to `to` they now read as es behind what was read up to `at`; from `back` on they are as they were.
pub record Moved (ss ns ss' ns' : List (List ℕ)) (at to back : ℕ) (es : List Entry) : Type 0 where
  pub as_many_slots : length ss' ≡ length ss
  pub as_many_names : length ns' ≡ length ns
  pub place : to ≡ at + length es
  pub reads : held to ss' ns' ≡ held at ss ns ++ es
  pub short : (i : ℕ) → i < to → (i < at → name_length ss i ≤ max_name) → name_length ss' i ≤ max_name
  pub slots_behind : drop back ss' ≡ drop back ss
  pub names_behind : drop back ns' ≡ drop back ns
