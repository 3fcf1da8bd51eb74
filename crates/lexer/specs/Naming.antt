-- Cutting a name: which of the parts are its own, decided in 01's order.
use Rattle.std.specs.Prelude.{Bool, false, cond, ◌&&◌, ◌||◌, List, [], ◌∷◌, map, ℕ, zero, suc, length, take, Option, None, Some}
use Rattle.reading.specs.Codes.{codes}
use Rattle.reading.specs.Look.{Look, done, ◌>>=◌, look}
use Rattle.reading.specs.Cells.{is}
use Rattle.text.specs.Refusals.{starts_with_in}
use Rattle.names.specs.Same.{same, member}
use Rattle.names.specs.Name.{new_name}
use Rattle.names.specs.Flatten.{flatten}
use Rattle.names.specs.Fixed.{property_names, type_names, temporal_names}
use Rattle.lexer.specs.Flags.{Flags, TypeName, TillIn, AfterDot, clear}
use Rattle.lexer.specs.Read.{token, refused, Value, chars, Outcome, outcome}
use Rattle.lexer.specs.Parts.{Part, walk}
use Rattle.lexer.specs.TokenType

abbrev pub texts : List Part → List (List ℕ)
texts ps = map (λ p. p.cells) ps

-- The value: `Name::new`'s joining of the parts.
abbrev pub name_of : List Part → Value
name_of ps = chars (new_name (texts ps))

-- The place just behind the last part.
abbrev pub end_of : List Part → ℕ
end_of [] = 0
end_of (p ∷ []) = p.end
end_of (p ∷ q ∷ ps) = end_of (q ∷ ps)

abbrev pub starts_with : List ℕ → List Part → Bool
starts_with x [] = false
starts_with x (p ∷ ps) = same p.cells x

abbrev pub with_part : Part → Option (List Part) → Option (List Part)
with_part p None = None
with_part p (Some qs) = Some (p ∷ qs)

-- The parts before the first that is `in`.
abbrev pub before_in : List Part → Option (List Part)
before_in [] = None
before_in (p ∷ ps) = cond (same p.cells (codes "in")) (Some []) (with_part p (before_in ps))

-- The parts' flattening is found.
abbrev pub fits : (List ℕ → Bool) → List Part → Bool
fits found ps = found (flatten (texts ps))

-- The longest prefix of at most n parts that fits.
abbrev pub longest : (List ℕ → Bool) → List Part → ℕ → Option (List Part)
longest found ps zero = None
longest found ps (suc n) = cond (fits found (take (suc n) ps)) (Some (take (suc n) ps)) (longest found ps n)

-- Under `after_dot` the text is a property; a text that is a scope name, too, counts as a property.
abbrev pub is_property : Flags → List ℕ → Bool
is_property f x = f.after_dot && member x property_names

abbrev pub is_found : Flags → (List ℕ → Bool) → List ℕ → Bool
is_found f is_name x = is_property f x || is_name x

module _ (f : Flags) (is_name : List ℕ → Bool) (start : ℕ) (ps : List Part) (next : Option ℕ) (end : ℕ) where
  -- All parts, up to `end`: tried as a type name, then as a temporal name before `(`.
  abbrev pub all_parts : Outcome
  all_parts =
      let is_type = f.type_name && member (new_name (texts ps)) type_names in
      let is_temporal = member (new_name (texts ps)) temporal_names && is 0x28 next in
      outcome (token (cond is_type TokenType.BuiltInTypeName (cond is_temporal TokenType.NameDateTime TokenType.Name)) (name_of ps)) end (cond is_type (clear TypeName f) f)

  -- By the longest prefix found. A property match clears `after_dot`, a scope match clears nothing.
  abbrev pub by_prefix : Option (List Part) → Outcome
  by_prefix None = all_parts
  by_prefix (Some qs) = outcome (token TokenType.Name (name_of qs)) (end_of qs) (cond (fits (is_property f) qs) (clear AfterDot f) f)

  -- By the parts before `in`: with none of them it is 8, at the first part.
  abbrev pub by_in : Option (List Part) → Outcome
  by_in (Some []) = outcome (refused starts_with_in 0) start f
  by_in (Some (q ∷ qs)) = outcome (token TokenType.Name (name_of (q ∷ qs))) (end_of (q ∷ qs)) (clear TillIn f)
  by_in None =
      cond (is 0x3A next) (outcome (token TokenType.Name (name_of ps)) end f)
      (by_prefix (longest (is_found f is_name) ps (length ps)))

  -- The name that begins at start, of the parts ps, with next behind them at `end`.
  abbrev pub cut_name : Outcome
  cut_name =
      cond (starts_with (codes "item") ps) (outcome (token TokenType.Name (name_of (take 1 ps))) (end_of (take 1 ps)) f)
      (by_in (cond f.till_in (before_in ps) None))

abbrev pub read_name : ℕ → Flags → (List ℕ → Bool) → ℕ → Look Outcome
read_name fuel f is_name start = do
  r ← walk fuel fuel start
  next ← look r.1
  done (cut_name f is_name start r.0 next r.1)
