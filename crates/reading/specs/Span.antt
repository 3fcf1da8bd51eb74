-- Runs of cells of one class.
use Rattle.std.specs.Prelude.{Bool, cond, List, [], ◌∷◌, ℕ, zero, suc, ◌+◌, ◌-◌, take, drop}
use Rattle.reading.specs.Look.{Look, done, ask, ◌>>=◌}
use Rattle.reading.specs.Cells.{maybe}

-- The longest run of cells of the class p from i on and the place behind it, asked for cell by cell, of at most so many cells.
unfoldable pub gather : (ℕ → Bool) → ℕ → ℕ → Look (List ℕ × ℕ)
gather p zero i = done ([], i)
gather p (suc f) i = ask i (λ c. maybe c (done ([], i)) (λ x. cond (p x)
    (do
      r ← gather p f (suc i)
      done (x ∷ r.0, r.1))
    (done ([], i))))

-- How many cells of the class p a text begins with.
abbrev pub span : (ℕ → Bool) → List ℕ → ℕ
span p [] = 0
span p (c ∷ cs) = cond (p c) (suc (span p cs)) 0

-- The first place from i on that holds no cell of the class p.
unfoldable pub past : (ℕ → Bool) → List ℕ → ℕ → ℕ
past p t i = i + span p (drop i t)

-- The cells from index a up to, not including, index e.
abbrev pub part : List ℕ → ℕ → ℕ → List ℕ
part t a e = take (e - a) (drop a t)
