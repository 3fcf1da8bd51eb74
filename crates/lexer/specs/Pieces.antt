-- What the code of strings answers, in the terms of the readings.
use Rattle.std.specs.Prelude.{◌≡◌, Bool, true, false, not, ◌||◌, List, [], ℕ, ◌+◌, ◌≤◌, eqb, length, Result, Ok, Err}
use Rattle.std.specs.List.{FoldsTo}
use Rattle.text.specs.Classes.{is_vertical_space}
use Rattle.text.specs.RefusalNumber.{number_of}
use Rattle.reading.specs.Look.{Look}
use Rattle.reading.specs.Goes.{Goes}
use Rattle.reading.specs.Slices.{Wrote}
use Rattle.lexer.specs.Read.{Read, token, refused, nothing, chars}
use Rattle.lexer.specs.Text as spec
use Rattle.lexer.specs.Token.{fuel}
use Rattle.lexer.specs.TokenType
use Rattle.lexer.specs.declared.string.Literal.{Literal}
use Rattle.lexer.specs.declared.string.Literal.TheVariants.{Chars, LineEnds, TextEnds}
use Rattle.lexer.specs.declared.string.Broken.{Broken}
use Rattle.lexer.specs.declared.string.Piece.{Piece}
use Rattle.lexer.specs.declared.string.Piece.TheVariants.{Char, Quote, LineEnd, TextEnd}

-- a character that stands for itself in a string
abbrev pub is_plain : ℕ → Bool
is_plain c = not (eqb 0x5C c || eqb 0x22 c || is_vertical_space c)

abbrev pub hex_of : Result ℕ Broken → spec.Hex
hex_of (Ok v) = spec.value v
hex_of (Err b) = spec.no_digit (number_of b.refusal) b.carry b.place

-- the reach after n digits from i on were due
abbrev pub hex_reach : ℕ → ℕ → Result ℕ Broken → ℕ
hex_reach i n (Ok v) = i + n
hex_reach i n (Err b) = b.reach

abbrev pub hex_end : ℕ → ℕ → Result ℕ Broken → ℕ
hex_end i n (Ok v) = i + n
hex_end i n (Err b) = b.place

-- the piece that an answer means, behind the cells so far
abbrev pub piece_of : List ℕ → Result Piece Broken → spec.Piece
piece_of sofar (Ok (Char c j)) = spec.char c j
piece_of sofar (Ok (Quote j)) = spec.stop (token TokenType.String (chars sofar)) j
piece_of sofar (Ok (LineEnd j)) = spec.stop (token TokenType.YyUndef nothing) j
piece_of sofar (Ok (TextEnd j)) = spec.stop (token TokenType.YyEof nothing) j
piece_of sofar (Err b) = spec.stop (refused (number_of b.refusal) b.carry) b.place

-- between these lies the reach after a piece; a piece behind which more is read leaves it open by one
abbrev pub lowest : Result Piece Broken → ℕ
lowest (Ok (Char c j)) = 0
lowest (Ok (Quote j)) = j + 1
lowest (Ok (LineEnd j)) = j + 2
lowest (Ok (TextEnd j)) = j + 2
lowest (Err b) = b.reach

abbrev pub highest : Result Piece Broken → ℕ
highest (Ok (Char c j)) = j + 1
highest (Ok (Quote j)) = j + 1
highest (Ok (LineEnd j)) = j + 2
highest (Ok (TextEnd j)) = j + 2
highest (Err b) = b.reach

abbrev pub end_of : Result Piece Broken → ℕ
end_of (Ok (Char c j)) = j
end_of (Ok (Quote j)) = j
end_of (Ok (LineEnd j)) = j
end_of (Ok (TextEnd j)) = j
end_of (Err b) = b.place

-- the first place at which a piece from i on may end
abbrev pub least_end : ℕ → Result Piece Broken → ℕ
least_end i (Ok (Char c j)) = i + 1
least_end i (Ok (Quote j)) = i
least_end i (Ok (LineEnd j)) = i
least_end i (Ok (TextEnd j)) = i
least_end i (Err b) = i

-- with r as the reach so far, the reading m gives the answer p, from i on
pub record Pieced (t : List ℕ) (r : ℕ) (m : List ℕ → Look spec.Piece) (i : ℕ) (p : Result Piece Broken) : Type 0 where
  pub reach : ℕ
  pub low : lowest p ≤ reach
  pub high : reach ≤ highest p
  pub from : least_end i p ≤ end_of p
  pub within : end_of p ≤ length t
  pub goes : (sofar : List ℕ) → Goes t r (m sofar) (piece_of sofar p) reach

-- the piece of a string's inside at i, whatever the reach so far
abbrev pub At : List ℕ → ℕ → Result Piece Broken → Type 0
At t i p = (r : ℕ) → r ≤ i + 1 → Pieced t r (λ sofar. spec.read_piece i sofar) i p

pub record Hexed (t : List ℕ) (i n : ℕ) (h : Result ℕ Broken) : Type 0 where
  pub from : i ≤ hex_end i n h
  pub within : hex_end i n h ≤ length t
  pub goes : Goes t i (spec.read_hex n 0 i) (hex_of h) (hex_reach i n h)

-- the reading that an answer about a string's inside means, its characters being cells
abbrev pub text_of : List ℕ → Result Literal Broken → Read
text_of cells (Ok (Chars n e)) = token TokenType.String (chars cells)
text_of cells (Ok (LineEnds e)) = token TokenType.YyUndef nothing
text_of cells (Ok (TextEnds e)) = token TokenType.YyEof nothing
text_of cells (Err b) = refused (number_of b.refusal) b.carry

abbrev pub text_end : Result Literal Broken → ℕ
text_end (Ok (Chars n e)) = e
text_end (Ok (LineEnds e)) = e
text_end (Ok (TextEnds e)) = e
text_end (Err b) = b.place

abbrev pub text_reach : Result Literal Broken → ℕ
text_reach (Ok (Chars n e)) = e + 1
text_reach (Ok (LineEnds e)) = e + 2
text_reach (Ok (TextEnds e)) = e + 2
text_reach (Err b) = b.reach

abbrev pub text_count : Result Literal Broken → ℕ
text_count (Ok (Chars n e)) = n
text_count (Ok (LineEnds e)) = 0
text_count (Ok (TextEnds e)) = 0
text_count (Err b) = 0

-- the reading of a string's inside from i on gives the answer x, which counts the cells
pub record Inside (t : List ℕ) (i : ℕ) (x : Result Literal Broken) : Type 0 where
  pub cells : List ℕ
  pub count : text_count x ≡ length cells
  pub from : i + text_count x ≤ text_end x
  pub within : text_end x ≤ length t
  pub sees : Goes {A = Read × ℕ} t 0 (spec.read_string fuel [] i) (text_of cells x, text_end x) (text_reach x)

abbrev pub is_string : Result Literal Broken → Bool
is_string (Ok (Chars n e)) = true
is_string (Ok (LineEnds e)) = false
is_string (Ok (TextEnds e)) = false
is_string (Err b) = false

-- The same, and the characters of a string were handed on one by one, each of which took f by a step.
pub record Handed {F : Type 0} (step : F → ℕ → F → Type 0) (t : List ℕ) (i : ℕ) (f : F) (x : Result Literal Broken) (f' : F) : Type 0 where
  pub inside : Inside t i x
  pub handed : is_string x ≡ true → FoldsTo step f inside.cells f'

-- If the reading from i on is a string, its characters were written.
pub record Written (t : List ℕ) (i : ℕ) (o : List ℕ) (n : ℕ) (o' : List ℕ) : Type 0 where
  pub wrote : (cells : List ℕ) (e q : ℕ) → Goes {A = Read × ℕ} t 0 (spec.read_string fuel [] i) (token TokenType.String (chars cells), e) q → Wrote o cells n o'
