-- What the code of the token call answers and leaves, in the terms of the definitions.
use Rattle.std.specs.Prelude.{◌≡◌, cond, ◌||◌, List, ℕ, ◌*◌, ltb, Option, None, Some, Result, Ok, Err}
use Rattle.reading.specs.Slices.{front}
use Rattle.text.specs.Limits.{max_chars}
use Rattle.text.specs.Refusals.{too_long, short_slice, broken_scope, beyond_text}
use Rattle.text.specs.RefusalNumber.{number_of}
use Rattle.scope.specs.Lent.{Lent, is_broken}
use Rattle.scope.specs.Answers.{lent}
use Rattle.scope.specs.declared.lent.Lent.{Lent as CodeLent}
use Rattle.scope.specs.declared.lent.Sound.{Sound}
use Rattle.text.specs.declared.refusal.Refusal.{Refusal}
use Rattle.lexer.specs.Read.{cells_of}
use Rattle.lexer.specs.Lexer as spec
use Rattle.lexer.specs.Lexer.{State, state, Step}
use Rattle.lexer.specs.FlagsOf.{flags_of}
use Rattle.lexer.specs.Answered.{told, Says}
use Rattle.lexer.specs.Taken.{coded}
use Rattle.lexer.specs.declared.token.Token.{Token}
use Rattle.lexer.specs.declared.token.Refused.{Refused}
use Rattle.tokens.specs.declared.call.Lexer.{Lexer}
use Rattle.tokens.specs.declared.call.Called.{Called}

-- The state that a lexer stands for.
abbrev pub state_of : Lexer → State
state_of l = state l.position (flags_of l.flags) l.due

abbrev pub lent_of : CodeLent → Lent
lent_of l = lent l.counts l.slots.now l.names.now

-- The refusal by the host of a call at position p of a text of n characters.
abbrev pub refusal_of : Lent → ℕ → ℕ → ℕ → ℕ → Option ℕ
refusal_of lent p n output scratch =
    cond (ltb max_chars n) (Some too_long)
    (cond (ltb n p) (Some beyond_text)
    (cond (is_broken lent) (Some broken_scope)
    (cond (ltb output n || ltb scratch (2 * n)) (Some short_slice) None)))

-- A call that is refused is answered so, and any other with the scope that it was lent.
abbrev pub Admits : Option ℕ → Lent → Result Sound Refusal → Type 0
Admits n l (Ok s) = (n ≡ None) × (lent s.counts s.slots.now s.names.now ≡ l)
Admits n l (Err r) = n ≡ Some (number_of r)

-- A step was made, its value written to the front of o.
pub record Stepped (a : Step) (o : List ℕ) (r : Called) (o' : List ℕ) : Type 0 where
  pub read : told r.read ≡ coded a.read
  pub place : r.place ≡ a.next.position
  pub next : state_of r.next ≡ a.next
  pub left : o' ≡ front (cells_of a.read) o

-- The call answers r and leaves output and scratch as they are then: r's case, by its number and value, is what is read.
pub record CalledBy (c : spec.Called) (r : Called) (output scratch : List ℕ) : Type 0 where
  pub read : Says (told r.read) output c.read
  pub place : r.place ≡ c.place
  pub next : state_of r.next ≡ c.next
  pub left : output ≡ c.output
  pub clean : scratch ≡ c.scratch

-- A call on a lent lexer answers what was read and leaves the lexer at l: its place is l's position.
abbrev pub standing : Result Token Refused → Lexer → Called
standing r l = record { read = r; place = l.position; next = l }
