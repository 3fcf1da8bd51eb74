-- The longest prefix of a name that is found, by its number of parts.
use Rattle.std.specs.Prelude.{◌≡◌, Bool, true, cond, List, ℕ, zero, suc, ◌*◌, ◌≤◌, ◌<◌, length}
use Rattle.reading.specs.Slices.{zeros}
use Rattle.lexer.specs.Flags.{Flags}
use Rattle.lexer.specs.Naming.{fits, is_property, is_found}
use Rattle.lexer.specs.Places.{prefix}

-- The most parts, at most n, whose flattening is found; 0 if there are none.
unfoldable pub fit : (List ℕ → Bool) → List ℕ → ℕ → ℕ → ℕ
fit found t from zero = 0
fit found t from (suc n) = cond (fits found (prefix t (suc n) from)) (suc n) (fit found t from n)

-- No search that finds only texts of at most cap cells finds more than m parts.
pub record Bounded (t : List ℕ) (from n cap m : ℕ) : Type 0 where
  pub less : m ≤ n
  pub so : (found : List ℕ → Bool) → ((l : List ℕ) → found l ≡ true → length l ≤ cap) → fit found t from n ≡ fit found t from m

-- A slice of zeros alone, as scratch is found and left.
pub record Clear (o : List ℕ) : Type 0 where
  pub all : o ≡ zeros (length o)

-- Whether the text x is found, and whether as a property.
pub record Asked (f : Flags) (is_name : List ℕ → Bool) (x : List ℕ) (found property : Bool) : Type 0 where
  pub any : found ≡ is_found f is_name x
  pub one : property ≡ is_property f x

-- The longest prefix found, of at most n parts, has so many parts, and is a property or not.
pub record Longest (f : Flags) (is_name : List ℕ → Bool) (t : List ℕ) (from n parts : ℕ) (property : Bool) : Type 0 where
  pub most : parts ≡ fit (is_found f is_name) t from n
  pub one : 0 < parts → property ≡ fits (is_property f) (prefix t parts from)

-- What a search for names in the text t is lent: scratch that is clear and twice as long.
pub record Searchable (t : List ℕ) (scratch : List ℕ) : Type 0 where
  pub room : 2 * length t ≤ length scratch
  pub clean : Clear scratch
