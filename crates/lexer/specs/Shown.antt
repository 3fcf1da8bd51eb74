-- The window, as a function of the text.
use Rattle.std.specs.Prelude.{List, [], ◌∷◌, ℕ, zero, suc}
use Rattle.reading.specs.Look.{cell_at}
use Rattle.lexer.specs.Window.{shown}

unfoldable pub window_of : ℕ → List ℕ → ℕ → List ℕ
window_of zero t i = []
window_of (suc k) t i = shown (cell_at t i) ∷ window_of k t (suc i)
