-- A bound on the lengths of names.
use Rattle.std.specs.Prelude.{◌≡◌, Bool, true, List, ℕ, ◌≤◌, length}

-- No name has more than cap cells.
pub record Capped (is_name : List ℕ → Bool) (cap : ℕ) : Type 0 where
  pub so : (x : List ℕ) → is_name x ≡ true → length x ≤ cap
