-- Rows that were written.
use Rattle.std.specs.Prelude.{ℕ, ◌+◌, ◌<◌, ◌≤◌, ◌≡◌, List, ◌++◌, drop, length}
use Rattle.scope.specs.Limits.{max_name}
use Rattle.scope.specs.Entries.{Entry}
use Rattle.scope.specs.Lent.{held}
use Rattle.scope.specs.Rows.{name_length}

-- The rows from `at` to `to` now read as es; those before read as they did, those behind are as they were.
-- `held` reads a name length over 128 like 128: that none is written is a fact of its own.
pub record Appended (ss ns ss' ns' : List (List ℕ)) (at to : ℕ) (es : List Entry) : Type 0 where
  pub as_many_slots : length ss' ≡ length ss
  pub as_many_names : length ns' ≡ length ns
  pub place : to ≡ at + length es
  pub reads : held to ss' ns' ≡ held at ss ns ++ es
  pub short : (i : ℕ) → i < to → (i < at → name_length ss i ≤ max_name) → name_length ss' i ≤ max_name
  pub slots_behind : drop to ss' ≡ drop to ss
  pub names_behind : drop to ns' ≡ drop to ns
