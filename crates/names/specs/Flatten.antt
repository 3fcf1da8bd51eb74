-- Flattening: the spelling of a name's parts that is looked up among the scope's names and the properties.
use Rattle.std.specs.Prelude.{cond, ◌&&◌, List, [], ◌∷◌, ◌++◌, map, ℕ, eqb}
use Rattle.reading.specs.Codes.{codes}
use Rattle.names.specs.Trim.{trim}

abbrev pub join_by_space : List (List ℕ) → List ℕ
join_by_space [] = []
join_by_space (p ∷ []) = p
join_by_space (p ∷ q ∷ ps) = p ++ 0x20 ∷ join_by_space (q ∷ ps)

-- One left-to-right pass: each " s " becomes s.
abbrev pub tighten : ℕ → List ℕ → List ℕ
tighten s [] = []
tighten s (a ∷ []) = a ∷ []
tighten s (a ∷ b ∷ []) = a ∷ b ∷ []
tighten s (a ∷ b ∷ c ∷ xs) = cond (eqb a 0x20 && eqb b s && eqb c 0x20) (s ∷ tighten s xs) (a ∷ tighten s (b ∷ c ∷ xs))

-- A pass for each symbol, in this order.
abbrev pub tighten_all : List ℕ → List ℕ → List ℕ
tighten_all [] xs = xs
tighten_all (s ∷ ss) xs = tighten_all ss (tighten s xs)

-- A joined text, trimmed and passed over six times.
unfoldable pub flat : List ℕ → List ℕ
flat xs = tighten_all (codes "./-'+*") (trim xs)

-- 01: parts trimmed, joined by a space, the whole trimmed, then the six passes.
abbrev pub flatten : List (List ℕ) → List ℕ
flatten ps = flat (join_by_space (map trim ps))
