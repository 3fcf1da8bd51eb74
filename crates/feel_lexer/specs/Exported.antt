-- The exported calls: what each returns and leaves in its slices. 0 is returned where nothing is refused.
-- Refused first, with 9 and place 0: an answer or a lexer that is not of its form; what the calls below refuse comes behind, a scope of another size as any broken one.
use Rattle.std.specs.Prelude.{◌≡◌, Bool, true, false, cond, ◌&&◌, List, [], ◌∷◌, ℕ, ◌+◌, ◌≤◌, eqb, leb, length, Option, None, Some, Result, Ok, Err}
use Rattle.reading.specs.Slices.{front, zeros}
use Rattle.text.specs.Refusals.{short_slice, broken_scope}
use Rattle.text.specs.RefusalNumber as refusal
use Rattle.text.specs.declared.refusal.Refusal.{Refusal}
use Rattle.text.specs.declared.refusal.Refusal.TheVariants.{ShortSlice}
use Rattle.text.specs.Utf8 as utf8
use Rattle.scope.specs.Limits.{max_entries, max_parsed}
use Rattle.scope.specs.Entries as entries
use Rattle.scope.specs.Entries.{ParsingScope}
use Rattle.scope.specs.Calls as calls
use Rattle.scope.specs.Answers.{Answer as Changed}
use Rattle.scope.specs.declared.scope.Scope.{Scope}
use Rattle.scope.specs.Lent.{is_broken, scope_of, on_scope}
use Rattle.lexer.specs.Answered.{Told, read_of, cell_count}
use Rattle.lexer.specs.Read.{Read, token, refused, is_refused, number_of, cells_of}
use Rattle.lexer.specs.Lexer.{Called as TokenCalled, next_token}
use Rattle.tokens.specs.CalledBy.{state_of}
use Rattle.tokens.specs.declared.call.Lexer.{Lexer}
use Rattle.runs.specs.Item.{lengths_of, extra_of}
use Rattle.runs.specs.Coded.{lengths_from}
use Rattle.runs.specs.declared.call.Counts.{Counts}
use Rattle.runs.specs.Record.{bit_flags}
use Rattle.runs.specs.Request.{Request}
use Rattle.runs.specs.Calls as runs
use Rattle.runs.specs.Calls.{Room, room_after, run_call, repair_call}
use Rattle.feel_lexer.specs.declared.answer.Answer.{Answer}
use Rattle.feel_lexer.specs.Numbers.{answer_size, answer, placed, counted, is_scope, counts_of, lent_of, state_at, lexer_numbers, all_flags, is_lexer}

abbrev pub is_answer : List ℕ → Bool
is_answer ns = eqb (length ns) answer_size

-- An answer that is not of its size stays as it is.
abbrev pub told : List ℕ → List ℕ → List ℕ
told row ns = cond (is_answer ns) row ns

-- The answer's size is checked, and what else must hold. An answer of its size is set to place 0.
pub record Checked (more : Bool) (ns : List ℕ) (r : Result (Unit {0}) Refusal) (ns' : List ℕ) : Type 0 where
  pub outcome : r ≡ cond (is_answer ns && more) (Ok tt) (Err ShortSlice)
  pub answer : ns' ≡ told (placed 0 0) ns

-- The numbers of the code's answer, at their places.
abbrev pub row_of : Answer → List ℕ
row_of a = answer a.place a.token_type a.length a.before a.after a.exponent a.extra a.items

-- What C gets of a call: the number of its refusal, or 0.
unfoldable pub number : Result (Unit {0}) Refusal → ℕ
number (Ok x) = 0
number (Err e) = refusal.number_of e

-- Opening.
pub record Opening : Type 0 where
  pub number : ℕ
  pub cells : List ℕ
  pub answer : List ℕ

abbrev pub opening : utf8.Opened → List ℕ → Opening
opening (utf8.opened cs) cells = record { number = 0; cells = front cs cells; answer = counted (length cs) 0 }
opening (utf8.refused n p) cells = record { number = n; cells = cells; answer = placed p 0 }

abbrev pub feel_open : List ℕ → List ℕ → List ℕ → Opening
feel_open bytes cells ns =
    cond (is_answer ns) (opening (utf8.open_bytes bytes (length cells)) cells) (record { number = short_slice; cells = cells; answer = ns })

-- What the code of a scope call answers, as a number; and the scope's numbers behind it.
abbrev pub coded_number : Changed → ℕ
coded_number (Ok s) = 0
coded_number (Err e) = refusal.number_of e

abbrev pub scope_numbers : Changed → List ℕ → List ℕ
scope_numbers (Ok s) ns = s.contexts ∷ s.entries ∷ s.parsed ∷ []
scope_numbers (Err e) ns = ns

-- A call is made by a closure on the counts of a scope, where answer and scope have their sizes; what it answers is told and written. `step` says what a call of the closure answers and leaves of it.
pub record Called {F : Type 0} (step : F → Scope → Changed → F → Type 0) (before : F) (ns scope : List ℕ) (r : Result (Unit {0}) Refusal) (ns' scope' : List ℕ) (after : F) : Type 0 where
  pub answer : ns' ≡ told (placed 0 0) ns
  pub missized : is_answer ns && is_scope scope ≡ false → (number r ≡ cond (is_answer ns) broken_scope short_slice) × (scope' ≡ scope) × (after ≡ before)
  pub made : is_answer ns && is_scope scope ≡ true → (c : Changed) × step before (counts_of scope) c after × (number r ≡ coded_number c) × (scope' ≡ scope_numbers c scope)

-- A scope call, by what the model answers.
abbrev pub changed_number : calls.Changed → ℕ
changed_number (calls.changed s) = 0
changed_number (calls.refused n) = n

-- The counts and rows after it: the model's scope, which is not broken, or all as it was.
-- Free, and read by no call, are the rows that the scope does not use, the cells behind a name's length, and the first three numbers of a parsed name's slot.
abbrev pub Leaves : calls.Changed → List ℕ → List (List ℕ) → List (List ℕ) → List ℕ → List (List ℕ) → List (List ℕ) → Type 0
Leaves (calls.changed s) ns slots names ns' slots' names' = (scope_of (lent_of ns' slots' names') ≡ s) × (is_broken (lent_of ns' slots' names') ≡ false)
Leaves (calls.refused n) ns slots names ns' slots' names' = (ns' ≡ ns) × (slots' ≡ slots) × (names' ≡ names)

abbrev pub scope_call : List ℕ → List ℕ → List (List ℕ) → List (List ℕ) → (ParsingScope → calls.Changed) → calls.Changed
scope_call ns scope slots names call = cond (is_answer ns) (on_scope (lent_of scope slots names) call) (calls.refused short_slice)

pub record ScopeCall (call : ParsingScope → calls.Changed) (ns scope : List ℕ) (slots names : List (List ℕ)) (r : ℕ) (ns' scope' : List ℕ) (slots' names' : List (List ℕ)) : Type 0 where
  pub number : r ≡ changed_number (scope_call ns scope slots names call)
  pub left : Leaves (scope_call ns scope slots names call) scope slots names scope' slots' names'
  pub answer : ns' ≡ told (placed 0 0) ns

-- Opening a scope: with rows enough beside it, its counts are those of one empty context.
abbrev pub Opens : Bool → List ℕ → List ℕ → Type 0
Opens false scope scope' = scope' ≡ scope
Opens true scope scope' = ((slots names : List (List ℕ)) → scope_of (lent_of scope' slots names) ≡ entries.opened)
    × ((slots names : List (List ℕ)) → max_entries + max_parsed ≤ length slots → max_entries + max_parsed ≤ length names → is_broken (lent_of scope' slots names) ≡ false)

pub record ScopeOpened (ns scope : List ℕ) (r : ℕ) (ns' scope' : List ℕ) : Type 0 where
  pub number : r ≡ cond (is_answer ns) (cond (is_scope scope) 0 broken_scope) short_slice
  pub left : Opens (is_answer ns && is_scope scope) scope scope'
  pub answer : ns' ≡ told (placed 0 0) ns

-- The token call.
pub record Token : Type 0 where
  pub number : ℕ
  pub lexer : List ℕ
  pub output : List ℕ
  pub scratch : List ℕ
  pub answer : List ℕ

abbrev pub refusal_number : Read → ℕ
refusal_number (token k v) = 0
refusal_number (refused n c) = n

abbrev pub read_answer : Read → ℕ → List ℕ
read_answer (token k v) place =
    let three = lengths_of (token k v) in
    answer place k (length (cells_of (token k v))) three.before three.after three.exponent (extra_of (token k v)) 0
read_answer (refused n c) place = placed place c

abbrev pub token_of : TokenCalled → Token
token_of c = record { number = refusal_number c.read; lexer = lexer_numbers c.next; output = c.output; scratch = c.scratch; answer = read_answer c.read c.place }

abbrev pub feel_next_token : List ℕ → List ℕ → List ℕ → List (List ℕ) → List (List ℕ) → List ℕ → List ℕ → List ℕ → Token
feel_next_token lexer text scope slots names output scratch ns =
    cond (is_answer ns && is_lexer lexer) (token_of (next_token (lent_of scope slots names) (state_at lexer) text output scratch))
    (record { number = short_slice; lexer = lexer; output = output; scratch = zeros (length scratch); answer = told (placed 0 0) ns })

-- What the code makes of numbers: a lexer in the state that they say, or none.
abbrev pub LexerOf : List ℕ → Option Lexer → Type 0
LexerOf ns None = is_lexer ns ≡ false
LexerOf ns (Some l) = (is_lexer ns ≡ true) × (state_of l ≡ state_at ns)

-- The answer's size was checked, and then the lexer's numbers: none is refused with 9.
abbrev pub Ready : List ℕ → List ℕ → Result Lexer Refusal → List ℕ → Type 0
Ready ns a (Ok l) a' = (is_answer a && is_lexer ns ≡ true) × (state_of l ≡ state_at ns) × (a' ≡ placed 0 0)
Ready ns a (Err e) a' = (is_answer a && is_lexer ns ≡ false) × (e ≡ ShortSlice) × (a' ≡ told (placed 0 0) a)

-- The same of what the code answers, whatever the output holds.
abbrev pub number_from : Told → ℕ
number_from r = refusal_number (read_of r [])

abbrev pub answer_from : Told → ℕ → List ℕ
answer_from r place =
    let x = read_of r [] in
    let three = lengths_from r in
    cond (is_refused x) (placed place (extra_of x)) (answer place (number_of x) (cell_count r) three.before three.after three.exponent (extra_of x) 0)

-- Run and repair.
pub record Recorded : Type 0 where
  pub number : ℕ
  pub room : Room
  pub answer : List ℕ

abbrev pub recorded : runs.Answer → Room → Recorded
recorded (runs.made r) room = record { number = 0; room = room_after (runs.made r) room; answer = counted (length r.store) (length r.rows) }
recorded (runs.refused n) room = record { number = n; room = room_after (runs.refused n) room; answer = placed 0 0 }

-- The same of what the code answers.
abbrev pub made_number : Result Counts Refusal → ℕ
made_number (Ok c) = 0
made_number (Err e) = refusal.number_of e

abbrev pub made_answer : Result Counts Refusal → List ℕ
made_answer (Ok c) = counted c.cells c.items
made_answer (Err e) = placed 0 0

abbrev pub not_recorded : Room → List ℕ → Recorded
not_recorded room ns = record { number = short_slice; room = room_after (runs.refused short_slice) room; answer = told (placed 0 0) ns }

abbrev pub feel_run : List ℕ → ℕ → ℕ → List ℕ → List (List ℕ) → List (List ℕ) → Room → List ℕ → Recorded
feel_run text start flags scope slots names room ns =
    cond (is_answer ns && leb flags all_flags) (recorded (run_call (lent_of scope slots names) room start (bit_flags flags) text) room) (not_recorded room ns)

abbrev pub feel_repair : Request → List ℕ → List (List ℕ) → List (List ℕ) → Room → List ℕ → Recorded
feel_repair request scope slots names room ns =
    cond (is_answer ns) (recorded (repair_call (lent_of scope slots names) room request) room) (not_recorded room ns)
