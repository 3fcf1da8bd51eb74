-- What the code of trimming, flattening and joining leaves, in the terms of the definitions.
use Rattle.std.specs.Prelude.{◌≡◌, Bool, false, cond, ◌&&◌, ◌||◌, List, [], ◌∷◌, ◌++◌, ℕ, ◌-◌, ◌≤◌, eqb, length, take, drop}
use Rattle.reading.specs.Span.{part}
use Rattle.reading.specs.Slices.{Wrote}
use Rattle.names.specs.Name.{is_symbol_text, is_empty}
use Rattle.names.specs.Flatten.{tighten}

-- A list begins with a space, s and a space.
abbrev pub spaced : ℕ → List ℕ → Bool
spaced s [] = false
spaced s (a ∷ []) = false
spaced s (a ∷ b ∷ []) = false
spaced s (a ∷ b ∷ c ∷ xs) = eqb a 0x20 && eqb b s && eqb c 0x20

-- The cells of o from i up to e, tightened, are now the k cells at its front, and nothing else has changed.
pub record Tightened (s : ℕ) (o : List ℕ) (i e k : ℕ) (o' : List ℕ) : Type 0 where
  pub wrote : Wrote o (tighten s (part o i e)) k o'
  pub less : k ≤ e - i
  pub same : length o' ≡ length o

-- What found o and left o' has the k cells v at its front, and changed nothing from cell n on; what lies between is free.
pub record Left (o v : List ℕ) (n k : ℕ) (o' : List ℕ) : Type 0 where
  pub size : k ≡ length v
  pub room : k ≤ n
  pub front : take k o' ≡ v
  pub behind : drop n o' ≡ drop n o
  pub same : length o' ≡ length o

-- Both joinings as one: as `Name::new` has it, or by spaces. No space goes before p if tied; b says that none is due after the part before.
unfoldable pub tied : Bool → Bool → List ℕ → Bool
tied new b p = cond new (b || is_symbol_text p || is_empty p) b

-- p, after a space unless b.
unfoldable pub laid : Bool → List ℕ → List ℕ
laid b p = cond b p (0x20 ∷ p)

unfoldable pub spelled : Bool → Bool → List (List ℕ) → List ℕ
spelled new b [] = []
spelled new b (p ∷ ps) = laid (tied new b p) p ++ spelled new (new && is_symbol_text p) ps
