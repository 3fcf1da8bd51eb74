-- The code's scope and its answers, in the terms of the definitions.
use Rattle.std.specs.Prelude.{ℕ, ◌≡◌, false, List, Result, Ok, Err}
use Rattle.text.specs.RefusalNumber.{number_of}
use Rattle.text.specs.declared.refusal.Refusal.{Refusal}
use Rattle.scope.specs.declared.scope.Scope.{Scope}
use Rattle.scope.specs.Calls.{Changed, changed, refused}
use Rattle.scope.specs.Lent.{Lent, scope_of, is_broken}

-- Counts with the rows that are lent beside them.
abbrev pub lent : Scope → List (List ℕ) → List (List ℕ) → Lent
lent s ss ns = record { contexts = s.contexts; entries = s.entries; parsed = s.parsed; slots = ss; names = ns }

-- What a call answers.
abbrev pub Answer : Type 0
Answer = Result Scope Refusal

abbrev pub answer_of : Answer → List (List ℕ) → List (List ℕ) → Changed
answer_of (Ok s) ss ns = changed (scope_of (lent s ss ns))
answer_of (Err e) ss ns = refused (number_of e)

-- A refused call leaves the lent rows as they were.
-- Behind a call that is not refused these are free, and no call reads them: the cells of a name's row behind its length, the first three numbers of a parsed name's slot, and every row that no entry and no parsed name uses.
abbrev pub Kept : Answer → List (List ℕ) → List (List ℕ) → Type 0
Kept (Ok s) rows rows' = Unit {0}
Kept (Err e) rows rows' = rows' ≡ rows

-- An accepted call leaves a scope that is not broken: no later call refuses it with 10.
abbrev pub Whole : Answer → List (List ℕ) → List (List ℕ) → Type 0
Whole (Ok s) ss ns = is_broken (lent s ss ns) ≡ false
Whole (Err e) ss ns = Unit {0}
