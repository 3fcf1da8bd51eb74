-- What the library's methods find at a place of a text.
use Rattle.std.proofs.Common.{◌≡◌, ℕ, ◌+◌, ◌-◌, ◌<◌, ◌≤◌, Bool, false, cond, List, [], ◌∷◌, length, take, drop, Option, None, Some, MatchOption, Bor, refl, ap, ◌∙◌, arith, length-drop}
use Rattle.std.specs.List.{HoldsAt, take_while, prefix_len}
use Rattle.std.proofs.lemmas.List.{take_all}
use Rattle.std.proofs.lemmas.List.Folds.{length-prefix_len}
use Rattle.reading.specs.Look.{cell_at}
use Rattle.reading.specs.Cells.{holds}
use Rattle.reading.specs.Span.{span, past}
use Rattle.reading.proofs.Cell.{holds_in, holds_out}
use Rattle.reading.proofs.Passed.{Passed, passed}

-- A test on what `get` finds.
pub found : (p : ℕ → Bool) (t : List ℕ) (i : ℕ) (o : Option (Bor ℕ)) (r : Bool) → MatchOption o (length t ≤ i) (λ x. (i < length t) × HoldsAt (λ y. x.now ≡ y) t i) → MatchOption o (r ≡ false) (λ x. r ≡ p x.now) → r ≡ holds p (cell_at t i)
found p t i None r h e = e ∙ holds_out p t i h
found p t i (Some x) r h e = e ∙ ap p (h.1 0) ∙ holds_in p t i h.0

run_span : (p : ℕ → Bool) (t : List ℕ) → prefix_len p t ≡ span p t
run_span p [] = refl
run_span p (c ∷ t) = ap (λ n. cond (p c) n 0) (let e = run_span p t in omega arith)

-- The run of a class from i on, as a chain takes it.
pub run_passed : (p : ℕ → Bool) (t : List ℕ) (i n : ℕ) → i ≤ length t → n ≡ length (take_while p (take (length t - i) (drop i t))) → Passed p t i (i + n)
unfolding past
run_passed p t i n h e =
    let a : take (length t - i) (drop i t) ≡ drop i t = take_all _ (drop i t) (omega (arith, length-drop i t)) in
    let f : n ≡ span p (drop i t) = e ∙ ap (λ s. length (take_while p s)) a ∙ length-prefix_len p (drop i t) ∙ run_span p (drop i t) in
    rw f (passed p t i h)
