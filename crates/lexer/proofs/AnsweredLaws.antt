-- What the code answers says what was read: a Boolean and a number stand with their own types, and the value fills the output's front.
use mathlib.Core.Path.{◌≡◌, refl, sym, ap, ◌∙◌}
use mathlib.Core.Bool.{Bool, true}
use mathlib.Core.List.{List, ◌++◌, append_assoc}
use Prim.Native.Nat.{ℕ, ◌+◌}
use lib.Dec.{eqb}
use lib.ListN.{length, take, drop, length-append}
use lib.Seq.{take-append_seam, drop-append_seam, drop-append-add}
use borrow.Author.Tests.{eqb-true}
use Rattle.reading.specs.Slices.{front}
use Rattle.lexer.specs.Read.{Read, token, refused, nothing, truth, number, chars, cells_of, has_form}
use Rattle.lexer.specs.TokenType
use Rattle.lexer.specs.Answered.{Told, numeric, read_of, cell_count, Says}
use Rattle.lexer.specs.Taken.{coded}

-- A Boolean and a number stand with their own types.
abbrev pub Typed : Read → Type 0
Typed (token k nothing) = Unit {0}
Typed (token k (truth b)) = eqb TokenType.Boolean k ≡ true
Typed (token k (number before after minus exponent)) = eqb TokenType.Numeric k ≡ true
Typed (token k (chars cs)) = Unit {0}
Typed (refused n c) = Unit {0}

pub formed_typed : (read : Read) → has_form read ≡ true → Typed read
formed_typed (token k nothing) h = tt
formed_typed (token k (truth b)) h = h
formed_typed (token k (number before after minus exponent)) h = h
formed_typed (token k (chars cs)) h = tt
formed_typed (refused n c) h = tt

-- A number's cells are its three lengths' sum.
pub three : (before after exponent : List ℕ) → length (before ++ after ++ exponent) ≡ length before + length after + length exponent
three before after exponent = rw (length-append, length-append)

pub cell-count : (read : Read) → cell_count (coded read) ≡ length (cells_of read)
cell-count (token k nothing) = refl
cell-count (token k (truth b)) = refl
cell-count (token k (number before after minus exponent)) = sym (three before after exponent)
cell-count (token k (chars cs)) = refl
cell-count (refused n c) = refl

-- The three parts of a number, found again where they were laid one behind the other.
module _ (before after exponent rest : List ℕ) where
  abbrev laid : List ℕ
  laid = before ++ (after ++ (exponent ++ rest))

  spread : before ++ after ++ exponent ++ rest ≡ laid
  spread = append_assoc (before ++ after) exponent rest ∙ append_assoc before after (exponent ++ rest)

  first_part : take (length before) laid ≡ before
  first_part = take-append_seam before _

  second_part : take (length after) (drop (length before) laid) ≡ after
  second_part = ap (take (length after)) (drop-append_seam before _) ∙ take-append_seam after _

  third_part : take (length exponent) (drop (length before + length after) laid) ≡ exponent
  third_part = ap (take (length exponent)) (drop-append-add before _ (length after) ∙ drop-append_seam after _) ∙ take-append_seam exponent rest

  pub number_back : (minus : Bool) → read_of (numeric (length before) (length after) minus (length exponent)) (before ++ after ++ exponent ++ rest) ≡ token TokenType.Numeric (number before after minus exponent)
  number_back minus = rw (spread, first_part, second_part, third_part)

-- The answer of a reading, its value written to the front of the output, says what was read.
meant : (read : Read) → Typed read → (o : List ℕ) → read_of (coded read) (front (cells_of read) o) ≡ read
meant (token k nothing) h o = refl
meant (token k (truth b)) h o = rw (eqb-true TokenType.Boolean k h)
meant (token k (number before after minus exponent)) h o =
    number_back before after exponent (drop (length (before ++ after ++ exponent)) o) minus ∙ ap (λ n. token n (number before after minus exponent)) (eqb-true TokenType.Numeric k h)
meant (token k (chars cs)) h o = ap (λ v. token k (chars v)) (take-append_seam cs _)
meant (refused n c) h o = refl

pub says_coded : (read : Read) → Typed read → {a : Told} → a ≡ coded read → (o : List ℕ) {o' : List ℕ} → o' ≡ front (cells_of read) o → Says a o' read
says_coded read h e o g = record { means = rw (e, g) (meant read h o); size = ap cell_count e ∙ cell-count read }
