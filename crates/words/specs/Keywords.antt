-- Words as code has them, and symbols by their characters; and what the search among them answers.
use Rattle.std.specs.Prelude.{◌≡◌, Bool, true, false, cond, ◌&&◌, not, List, [], ◌∷◌, map, ℕ, suc, ◌+◌, ◌≤◌, eqb, leb, length, get_or, take, drop, Option, None, Some}
use Rattle.reading.specs.Codes.{codes}
use Rattle.reading.specs.Look.{Look}
use Rattle.reading.specs.Cells.{is_one_of}
use Rattle.reading.specs.Goes.{Goes}
use Rattle.reading.proofs.Going.{Stands}
use Rattle.text.specs.Classes.{is_separator}
use Rattle.names.specs.Same.{same}
use Rattle.lexer.specs.Flags.{Flags, UnaryTests, Between}
use Rattle.lexer.specs.Read.{Value, nothing, truth, token, Outcome, outcome}
use Rattle.lexer.specs.Window.{Follow, next, ahead, When, always, if_set, if_clear, Row, words, is_followed, first_of, after_word}
use Rattle.lexer.specs.Token.{fuel}
use Rattle.lexer.specs.TypeNumber.{type_number}
use Rattle.lexer.specs.declared.token_type.TokenType.{TokenType}
use Rattle.words.specs.declared.keywords.Follower.{Follower}
use Rattle.words.specs.declared.keywords.Follower.TheVariants.{Space, Separator, SpaceOrParen, Less, ParenOrLess}
use Rattle.words.specs.declared.keywords.When.{When as State}
use Rattle.words.specs.declared.keywords.When.TheVariants.{Always, OutsideBetween, InsideBetween, InUnaryTests}
use Rattle.words.specs.declared.keywords.Word.{Word}
use Rattle.words.specs.declared.keywords.Found.{Found}
use Rattle.words.specs.declared.keywords.Match.{Match}

-- The class of the character that must follow a word.
abbrev pub class_of : Follower → ℕ → Bool
class_of Space = eqb 0x20
class_of Separator = is_separator
class_of SpaceOrParen = is_one_of (codes " (")
class_of Less = is_one_of (codes "<")
class_of ParenOrLess = is_one_of (codes "(<")

-- The last two look behind optional whitespace, all others at the window's next place.
abbrev pub follow_of : Follower → Follow
follow_of Space = next (class_of Space)
follow_of Separator = next (class_of Separator)
follow_of SpaceOrParen = next (class_of SpaceOrParen)
follow_of Less = ahead (class_of Less)
follow_of ParenOrLess = ahead (class_of ParenOrLess)

abbrev pub when_of : State → When
when_of Always = always
when_of OutsideBetween = if_clear Between
when_of InsideBetween = if_set Between
when_of InUnaryTests = if_set UnaryTests

abbrev pub value_of : Option Bool → Value
value_of None = nothing
value_of (Some b) = truth b

-- A word with its letters.
unfoldable pub row_of : List ℕ → Word → Row
row_of l r = record { word = take r.letters l; follow = follow_of r.follower; when = when_of r.when; type = type_number r.kind; value = value_of r.value }

unfoldable pub rows_of : List (List ℕ) → List Word → List Row
unfolding row_of
rows_of [] rs = []
rows_of (l ∷ ls) [] = []
rows_of (l ∷ ls) (r ∷ rs) = row_of l r ∷ rows_of ls rs

-- A word has one to nine letters, none of which is a space.
pub record Lettered (l : List ℕ) (n : ℕ) : Type 0 where
  pub some : 1 ≤ n
  pub most : n ≤ 9
  pub size : length l ≡ 9
  pub spaceless : is_one_of (take n l) 0x20 ≡ false

-- The same as a test, for whole tables.
unfoldable pub is_row : List ℕ → ℕ → Bool
is_row l n = leb 1 n && leb n 9 && eqb (length l) 9 && not (is_one_of (take n l) 0x20)

unfoldable pub are_rows : List (List ℕ) → List Word → Bool
unfolding is_row
are_rows [] [] = true
are_rows [] (r ∷ rs) = false
are_rows (l ∷ ls) [] = false
are_rows (l ∷ ls) (r ∷ rs) = is_row l r.letters && are_rows ls rs

-- The definition's words: those of letters, and the symbols of two characters behind them.
unfoldable pub letter_words : List Row
unfolding words
letter_words = take 24 words

unfoldable pub pairs : List Row
unfolding words
pairs = drop 24 words

-- The letters that each of some rows asks for.
abbrev pub words_of : List Row → List (List ℕ)
words_of [] = []
words_of (r ∷ rs) = r.word ∷ words_of rs

-- What the words of letters are found by: of each, its first letter counts.
unfoldable pub initials : List (List ℕ)
unfolding letter_words
initials = words_of letter_words

-- The type of the first of some symbols that is v.
unfoldable pub sign_of : List Row → List ℕ → Option ℕ
unfolding same
sign_of [] v = None
sign_of (r ∷ rs) v = cond (same r.word v) (Some r.type) (sign_of rs v)

-- Which of some words, counted from n, is the first that begins with x.
unfoldable pub place_from : ℕ → List (List ℕ) → ℕ → Option ℕ
place_from n [] x = None
place_from n (l ∷ ls) x = cond (eqb (get_or l 0 0) x) (Some n) (place_from (suc n) ls x)

-- Of each of some words, counted from n, the next that begins as it does.
unfoldable pub links_from : ℕ → List (List ℕ) → List (Option ℕ)
unfolding place_from
links_from n [] = []
links_from n (l ∷ ls) = place_from (suc n) ls (get_or l 0 0) ∷ links_from (suc n) ls

abbrev pub links_of : List Word → List (Option ℕ)
links_of rs = map (λ r. r.next) rs

-- The number of a type, if there is one.
abbrev pub number_in : Option TokenType → Option ℕ
number_in None = None
number_in (Some k) = Some (type_number k)

-- With q as the reach so far, what must follow a word of n letters was looked for.
pub record Followed (t : List ℕ) (q : ℕ) (follow : Follow) (w : List ℕ) (n i : ℕ) (hit : Bool) (to : ℕ) : Type 0 where
  pub on : q ≤ to
  pub near : to ≤ length t + 12
  pub goes : Goes t q (is_followed fuel follow w n i) hit to

-- What is found where a symbol of a type ends at e.
abbrev pub sign_found : Option TokenType → ℕ → Option Found
sign_found None e = None
sign_found (Some k) e = Some (record { kind = k; value = None; end = e })

-- Where the word ends that was found, at the earliest and in truth.
abbrev pub least_end : ℕ → Option Found → ℕ
least_end i (Some d) = i + 1
least_end i None = i

abbrev pub end_of : ℕ → Option Found → ℕ
end_of i (Some d) = d.end
end_of i None = i

-- A row that fits is the reading's answer, whatever would be read otherwise; if none does, the reading stands before that.
abbrev pub Says : List Row → List ℕ → ℕ → ℕ → List ℕ → Flags → Option Found → ℕ → Type 0
Says rs t r i w f (Some d) q = (o : Look Outcome) → Goes t r (first_of fuel rs f w i o) (outcome (token (type_number d.kind) (value_of d.value)) d.end (after_word (type_number d.kind) f)) q
Says rs t r i w f None q = (o : Look Outcome) → Stands t r (first_of fuel rs f w i o) o q

-- With r as the reach so far, the rows were tried on the window w at i.
pub record Matched (rs : List Row) (t : List ℕ) (r i : ℕ) (w : List ℕ) (f : Flags) (m : Match) : Type 0 where
  pub from : least_end i m.found ≤ end_of i m.found
  pub short : end_of i m.found ≤ i + 12
  pub within : end_of i m.found ≤ length t
  pub on : r ≤ m.reach
  pub near : m.reach ≤ length t + 12
  pub says : Says rs t r i w f m.found m.reach
