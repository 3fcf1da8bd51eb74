-- What the code of numbers answers, in the terms of the readings.
use Rattle.std.specs.Prelude.{Bool, List, ◌++◌, ℕ, ◌+◌, ◌≤◌, length}
use Rattle.reading.specs.Goes.{Goes}
use Rattle.reading.specs.Span.{part}
use Rattle.lexer.specs.Read.{Read}
use Rattle.lexer.specs.Number.{or_zero, numeric, read_sign, read_exponent, read_number}
use Rattle.lexer.specs.Token.{fuel}
use Rattle.lexer.specs.declared.number.Number.{Number}

pub record Signed (t : List ℕ) (i : ℕ) (minus : Bool) (end : ℕ) : Type 0 where
  pub sees : Goes {A = Bool × ℕ} t 0 (read_sign i) (minus, end) (i + 1)
  pub from : i ≤ end
  pub within : end ≤ length t

-- Whatever digits stand before it.
pub record Exponented (t : List ℕ) (i : ℕ) (minus : Bool) (from end : ℕ) : Type 0 where
  pub sees : (before after : List ℕ) → Goes {A = Read × ℕ} t 0 (read_exponent fuel before after i) (numeric before after minus (part t from end), end) (end + 1)
  pub begin : i ≤ from
  pub on : from ≤ end
  pub within : end ≤ length t

pub record Numbered (t : List ℕ) (i : ℕ) (n : Number) : Type 0 where
  pub sees : Goes {A = Read × ℕ} t 0 (read_number fuel i) (numeric (part t i n.before) (part t n.from n.after) n.minus (part t n.exponent n.end), n.end) n.reach
  pub first : i ≤ n.before
  pub point : n.before ≤ n.from
  pub second : n.from ≤ n.after
  pub letter : n.after ≤ n.exponent
  pub third : n.exponent ≤ n.end
  pub within : n.end ≤ length t

abbrev pub places : ℕ → ℕ → ℕ → Bool → ℕ → ℕ → ℕ → Number
places b f a m x e r = record { before = b; from = f; after = a; minus = m; exponent = x; end = e; reach = r }

-- The digits as they are written.
abbrev pub digits_of : List ℕ → ℕ → Number → List ℕ
digits_of t i n = or_zero (part t i n.before) ++ part t n.from n.after ++ part t n.exponent n.end
