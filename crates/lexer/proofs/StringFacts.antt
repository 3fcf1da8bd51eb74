-- A string stays in the text, and each of its characters takes a cell at least.
use mathlib.Core.Path.{◌≡◌, refl}
use mathlib.Core.Bool.{◌||◌}
use mathlib.Core.List.{List, [], ◌∷◌, ◌++◌}
use Prim.Native.Nat.{ℕ, zero, suc, ◌+◌, ◌-◌, ◌*◌, ◌≤◌, ◌<◌}
use native.Mathlib.Nat.{not-suc-le-zero}
use native.Mathlib.Omega.{arith}
use lib.Dec.{ltb, eqb}
use lib.ListN.{length, length-append}
use Rattle.reading.specs.Look.{Look}
use Rattle.reading.proofs.Test.{by_test}
use Rattle.reading.proofs.Ensures.{Ensures, answers, asks, asks_cell, binds, tests, chooses, chooses_cell}
use Rattle.text.specs.Classes.{is_vertical_space}
use Rattle.text.specs.Hex.{hex_value}
use Rattle.lexer.specs.Read.{Read}
use Rattle.lexer.specs.Text.{Piece, char, stop, on_piece, Hex, value, no_digit, read_hex, is_first_half, is_second_half, pair_of, digit_count, read_second_half, read_code_point, read_unicode, plain_escape, read_escape, read_piece, read_string}
use Rattle.lexer.proofs.Fine.{Fine, over, fine, lower}
use Rattle.lexer.proofs.SkipFacts.{far}

module _ (t : List ℕ) where
  -- The digits end at e, or the refusal lies in the text.
  abbrev Digits : ℕ → Hex → Type 0
  Digits e (value v) = e ≤ length t
  Digits e (no_digit n c j) = j ≤ length t

  hexes : (e k v i : ℕ) → i + k ≡ e → i ≤ length t → Ensures t (far t) (Digits e) (read_hex k v i) (read_hex k v i)
  unfolding read_hex
  hexes e zero v i q h = answers (omega arith)
  hexes e (suc k) v i q h = asks_cell (omega arith) (λ _. answers h) (λ c _ l. chooses (hex_value c) (answers h) (λ d. hexes e k (v * 16 + d) (i + 1) (omega arith) (omega arith)))

  -- A character's end, at lo or behind it; or what ended the reading.
  abbrev Pieced : ℕ → Piece → Type 0
  Pieced lo (char c j) = (lo ≤ j) × (j ≤ length t)
  Pieced lo (stop r j) = Fine (length t) lo r j

  pair_fine : (lo h i : ℕ) (r : Hex) → lo ≤ i → Digits i r → Pieced lo (pair_of h i r)
  pair_fine lo h i (no_digit n c j) l g = over (length t) lo j refl refl refl g
  pair_fine lo h i (value v) l g = by_test (Pieced lo) (is_second_half v) (λ _. (l, g)) (λ _. over (length t) lo i refl refl refl g)

  second_halves : (lo h i : ℕ) → lo ≤ i → i ≤ length t → Ensures t (far t) (Pieced lo) (read_second_half h i) (read_second_half h i)
  second_halves lo h i l k = asks_cell (omega arith) (λ _. answers (over (length t) lo i refl refl refl k))
      (λ c _ m. binds (hexes _ (digit_count c) 0 (i + 2) refl (omega arith)) (λ r g. answers (pair_fine lo h (i + 2 + digit_count c) r (omega arith) g)))

  code_points_lem : (lo i : ℕ) (r : Hex) → lo ≤ i → Digits i r → Ensures t (far t) (Pieced lo) (read_code_point i r) (read_code_point i r)
  code_points_lem lo i (no_digit n c j) l g = answers (over (length t) lo j refl refl refl g)
  code_points_lem lo i (value v) l g = tests (is_first_half v) (λ _. second_halves lo v i l g)
      (λ _. tests (is_second_half v || ltb 0x10FFFF v) (λ _. answers (over (length t) lo i refl refl refl g)) (λ _. answers (l, g)))

  unicodes : (lo n i : ℕ) → lo ≤ i → i ≤ length t → Ensures t (far t) (Pieced lo) (read_unicode n i) (read_unicode n i)
  unicodes lo n i l h = binds (hexes (i + n) n 0 i refl h) (λ r g. code_points_lem lo (i + n) r (omega arith) g)

  escapes : (lo c i : ℕ) → lo ≤ suc i → i + 2 ≤ length t → Ensures t (far t) (Pieced lo) (read_escape c i) (read_escape c i)
  escapes lo c i l h = chooses (plain_escape c)
      (tests (eqb 0x75 c || eqb 0x55 c) (λ _. unicodes lo (digit_count c) (i + 2) (omega arith) h) (λ _. answers (omega arith)))
      (λ x. answers (omega arith))

  pieces : (i : ℕ) (sofar : List ℕ) → i ≤ length t → length sofar ≤ i → Ensures t (far t) (Pieced (suc i)) (read_piece i sofar) (read_piece i sofar)
  pieces i sofar h s = asks_cell (omega arith) (λ _. asks (omega arith) (answers (over (length t) (suc i) i refl refl refl h))) (λ c _ l. asks (omega arith) (tests (eqb 0x5C c)
      (λ _. chooses_cell (i + 1) (answers (omega arith)) (λ y m. escapes (suc i) y i (omega arith) (omega arith)))
      (λ _. tests (eqb 0x22 c) (λ _. answers (fine (length t) (suc i) (i + 1) (omega arith) (omega arith) (omega arith) refl))
      (λ _. tests (is_vertical_space c) (λ _. answers (over (length t) (suc i) i refl refl refl h)) (λ _. answers (omega arith))))))

  on_piece_lem : {A : Type 0} {P : A → Type 0} (lo : ℕ) (p : Piece) {x x' : ℕ → ℕ → Look A} {y y' : Read → ℕ → Look A} → Pieced lo p
      → ((c j : ℕ) → lo ≤ j → j ≤ length t → Ensures t (far t) P (x c j) (x' c j)) → ((r : Read) (j : ℕ) → Fine (length t) lo r j → Ensures t (far t) P (y r j) (y' r j))
      → Ensures t (far t) P (on_piece p x y) (on_piece p x' y')
  on_piece_lem lo (char c j) h x y = x c j h.0 h.1
  on_piece_lem lo (stop r j) h x y = y r j h

  pub strings : (lo k k' : ℕ) (sofar : List ℕ) (i : ℕ) → lo ≤ suc i → i ≤ length t → length sofar ≤ i → length t - i < k → length t - i < k'
      → Ensures t (far t) (λ r. Fine (length t) lo r.0 r.1) (read_string k sofar i) (read_string k' sofar i)
  unfolding read_string
  strings lo zero k' sofar i l h s e e' = absurd (not-suc-le-zero e)
  strings lo (suc k) zero sofar i l h s e e' = absurd (not-suc-le-zero e')
  strings lo (suc k) (suc k') sofar i l h s e e' = binds (pieces i sofar h s) (λ p g. on_piece_lem (suc i) p g
      (λ c j m n. strings lo k k' (sofar ++ c ∷ []) j (omega arith) n (omega (arith, length-append sofar (c ∷ []))) (omega arith) (omega arith))
      (λ r j m. answers (lower lo m l)))
