-- The token call through numbers: refused for a form, or what the token call answers. The facts of a reading bound its value.
use Rattle.std.specs.Prelude.{Option, None, Some, Ok, Err}
use mathlib.Core.Path.{◌≡◌, refl, sym, ap, ◌∙◌, subst}
use mathlib.Core.Bool.{true, ◌||◌, ◌&&◌}
use mathlib.Core.List.{List, ◌++◌}
use Prim.Native.Nat.{ℕ, ◌+◌, ◌*◌, ◌≤◌}
use native.Mathlib.Omega.{arith}
use lib.Dec.{ltb}
use lib.ListN.{length, take, drop, length-take, length-drop}
use borrow.Author.Tests.{ltb-false}
use Rattle.reading.specs.Look.{run}
use Rattle.reading.specs.Cells.{maybe}
use Rattle.reading.proofs.Test.{by_test}
use Rattle.text.specs.Limits.{max_chars}
use Rattle.text.specs.RefusalNumber.{number_of}
use Rattle.text.specs.declared.refusal.Refusal.{Refusal}
use Rattle.scope.specs.Keys.{is_name}
use Rattle.scope.specs.Lent.{Lent, is_broken, scope_of}
use Rattle.scope.specs.Answers.{lent}
use Rattle.scope.specs.declared.scope.Scope.{Scope}
use Rattle.lexer.specs.Read.{Read, cells_of}
use Rattle.lexer.specs.Answered.{Told, plain, boolean, numeric, letters, broken, told, read_of, cell_count, Says}
use Rattle.lexer.specs.Lexer as spec
use Rattle.lexer.specs.Lexer.{State, step, next_token}
use Rattle.lexer.specs.Token.{read_token}
use Rattle.lexer.specs.TokenType as type
use Rattle.lexer.specs.TypeNumber.{type_number}
use Rattle.lexer.specs.declared.token_type.TokenType.{TokenType}
use Rattle.lexer.proofs.TokenFacts.{sound}
use Rattle.lexer.proofs.AnsweredLaws.{three}
use Rattle.tokens.specs.CalledBy.{state_of, CalledBy}
use Rattle.tokens.specs.declared.call.Lexer.{Lexer}
use Rattle.tokens.specs.declared.call.Called.{Called}
use Rattle.runs.specs.Coded.{kind_numbers, kind_from, value_from}
use Rattle.feel_lexer.specs.Numbers.{answer, counts_of, lent_of, state_at, lexer_numbers, is_lexer}
use Rattle.feel_lexer.specs.Exported.{is_answer, feel_next_token, refusal_number, read_answer, number_from, answer_from}

module _ (l : Lent) (s : State) (t output scratch : List ℕ) where
  step_short : length t ≤ max_chars → length (cells_of (step (scope_of l) s t).read) ≤ max_chars
  step_short limit = go s.pending
    where
      go : (k : Option ℕ) → length (cells_of (maybe k (spec.advanced s.position (run (drop s.position t) (read_token (is_name (scope_of l)) s.flags)).answer) (λ k. record { read = spec.start_read k; next = spec.state s.position s.flags None })).read) ≤ max_chars
      go (Some k) = omega arith
      go None =
          let w = sound (is_name (scope_of l)) s.flags (drop s.position t) (rw length-drop (omega arith)) in
          omega (arith, w.short, w.in_text, length-drop s.position t)

  abbrev Short : spec.Called → Type 0
  Short c = length (cells_of c.read) ≤ max_chars

  pub next_short : length (cells_of (next_token l s t output scratch).read) ≤ max_chars
  next_short =
      by_test Short (ltb max_chars (length t)) (λ _. omega arith)
      (λ h. by_test Short (ltb (length t) s.position) (λ _. omega arith)
      (λ _. by_test Short (is_broken l) (λ _. omega arith)
      (λ _. by_test Short (ltb (length output) (length t) || ltb (length scratch) (2 * length t)) (λ _. omega arith)
      (λ _. step_short (ltb-false _ _ h)))))

-- Three parts of some cells that have all the cells they are said to have.
whole_parts : (a b c : ℕ) (o : List ℕ) → a + b + c ≡ length (take a o ++ take b (drop a o) ++ take c (drop (a + b) o))
    → (length (take a o) ≡ a) × (length (take b (drop a o)) ≡ b) × (length (take c (drop (a + b) o)) ≡ c)
whole_parts a b c o e =
    let s = three (take a o) (take b (drop a o)) (take c (drop (a + b) o)) in
    let x = length-take a o in
    let y = length-take b (drop a o) in
    let z = length-take c (drop (a + b) o) in
    (omega arith, omega arith, omega arith)

-- What is told of the code's answer is what is told of what that says was read.
abbrev pub Same : Told → Read → ℕ → Type 0
Same a x p = (number_from a ≡ refusal_number x) × (answer_from a p ≡ read_answer x p)

of_case : (a : Told) (o : List ℕ) → cell_count a ≡ length (cells_of (read_of a o)) → (p : ℕ) → Same a (read_of a o) p
of_case (plain k) o e p = (refl, refl)
of_case (boolean b) o e p = (refl, refl)
of_case (numeric before after minus exponent) o e p = let w = whole_parts before after exponent o e in (refl, rw (← e, w.0, w.1, w.2))
of_case (letters k n) o e p = (refl, rw (← e))
of_case (broken n c) o e p = (refl, refl)

pub same_answer : {a : Told} {o : List ℕ} {x : Read} → Says a o x → (p : ℕ) → Same a x p
same_answer {a} {o} {x} s p = subst (λ y. Same a y p) s.means (of_case a o (s.size ∙ ap (λ y. length (cells_of y)) (sym s.means)) p)

-- The call on what the numbers stand for, with the answer that is told of it.
module _ (lexer scope : List ℕ) (slots names : List (List ℕ)) (text output scratch ns : List ℕ) where
  abbrev answered : spec.Called
  answered = next_token (lent_of scope slots names) (state_at lexer) text output scratch

  module _ (l : Lexer) (state : state_of l ≡ state_at lexer) (s : Scope) (read : s ≡ counts_of scope) {c : Called} {output' scratch' : List ℕ}
      (called : CalledBy (next_token (lent s slots names) (state_of l) text output scratch) c output' scratch') where
    called_at : CalledBy answered c output' scratch'
    called_at =
        subst (λ x. CalledBy (next_token (lent x slots names) (state_at lexer) text output scratch) c output' scratch') read
        (subst (λ x. CalledBy (next_token (lent s slots names) x text output scratch) c output' scratch') state called)

    pub value_short : cell_count (told c.read) ≤ max_chars
    value_short = omega (arith, called_at.read.size, next_short (lent_of scope slots names) (state_at lexer) text output scratch)

    pub token_taken : is_answer ns && is_lexer lexer ≡ true → {lexer' : List ℕ} → lexer' ≡ lexer_numbers (state_of c.next) → {n : ℕ} {ns' : List ℕ} → n ≡ number_from (told c.read) → ns' ≡ answer_from (told c.read) c.place
        → feel_next_token lexer text scope slots names output scratch ns ≡ record { number = n; lexer = lexer'; output = output'; scratch = scratch'; answer = ns' }
    token_taken h {lexer'} e k m =
        let w = called_at in
        let v : lexer' ≡ lexer_numbers answered.next = e ∙ ap lexer_numbers w.next in
        let y = same_answer w.read c.place in
        rw (h, v, k, m, y.0, y.1, w.place, w.left, w.clean)

-- What is told of a token's type, or of why it is refused, beside the numbers of its value.
abbrev row_of_read : Told → ℕ → ℕ → List ℕ
row_of_read a p k = let v = value_from a in answer p k v.length v.before v.after v.exponent v.extra 0

pub token_told : (a : Told) (k : TokenType) → kind_numbers (Ok k) ≡ kind_from a → (p : ℕ) → (0 ≡ number_from a) × (row_of_read a p (type_number k) ≡ answer_from a p)
token_told (plain n) k e p = let q : type_number k ≡ n = cc in (refl, rw q)
token_told (boolean b) k e p = let q : type_number k ≡ type.Boolean = cc in (refl, rw q)
token_told (numeric before after minus exponent) k e p = let q : type_number k ≡ type.Numeric = cc in (refl, rw q)
token_told (letters n m) k e p = let q : type_number k ≡ n = cc in (refl, rw q)
token_told (broken n c) k e p = absurd (cc)

pub refusal_told : (a : Told) (r : Refusal) → kind_numbers (Err r) ≡ kind_from a → (p : ℕ) → (number_of r ≡ number_from a) × (row_of_read a p 0 ≡ answer_from a p)
refusal_told (broken n c) r e p = let q : number_of r ≡ n = cc in (q, refl)
refusal_told (plain n) r e p = absurd (cc)
refusal_told (boolean b) r e p = absurd (cc)
refusal_told (numeric before after minus exponent) r e p = absurd (cc)
refusal_told (letters n m) r e p = absurd (cc)
