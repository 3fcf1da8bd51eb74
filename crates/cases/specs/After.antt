-- A scope from its calls, as a case gives them.
use Rattle.std.specs.Prelude.{cond, List, Ok, Err, ℕ, zero, suc, ◌+◌, min, eqb, take, replicate}
use Rattle.scope.specs.declared.scope.Scope.{Scope}
use Rattle.scope.specs.Limits.{max_name}
use Rattle.scope.specs.Entries.{ParsingScope, opened}
use Rattle.scope.specs.Calls.{Changed, changed, refused, pop, set_entry_name, add_parsed_name}
use Rattle.scope.specs.Lent.{push_list, set_context_list}
use Rattle.scope.specs.Answers.{Answer}
use Rattle.cases.specs.Fields.{decimal_at, decimal_end, cells_at, cells_end}
use Rattle.cases.specs.Laid.{laid}
use Rattle.cases.specs.Entries.{names_at, rows_at, entries_end}

-- A refused call leaves the scope that was: the code's, and the model's.
abbrev pub after_call : Answer → Scope → Scope
after_call (Ok next) s = next
after_call (Err e) s = s

abbrev pub after_change : Changed → ParsingScope → ParsingScope
after_change (changed next) s = next
after_change (refused n) s = s

-- 0 push, 1 pop, 2 set_entry_name, 3 set_context, 4 add_parsed_name.
unfoldable pub call_of : ℕ → List ℕ → List ℕ → List (List ℕ) → ParsingScope → Changed
call_of call name cells rows s =
    cond (eqb call 0) (push_list cells rows s)
    (cond (eqb call 1) (pop s)
    (cond (eqb call 2) (set_entry_name name s)
    (cond (eqb call 3) (set_context_list name cells rows s)
    (add_parsed_name name s))))

-- Room for a name, one more than it may have, so that a longer one is told.
abbrev pub long_name : ℕ
long_name = max_name + 1

-- Room for an entry list of a case; none has more.
abbrev pub max_rows : ℕ
max_rows = 514

abbrev pub max_cells : ℕ
max_cells = 1024

-- Behind the number of a call at i stand a name and an entry list: how many entries it has, and where the first begins.
abbrev pub entry_count : List ℕ → ℕ → ℕ
entry_count line i = min (decimal_at line (cells_end line (decimal_end line i))) max_rows

abbrev pub first_entry : List ℕ → ℕ → ℕ
first_entry line i = decimal_end line (cells_end line (decimal_end line i))

-- The call at i, and where the next begins.
unfoldable pub call_at : List ℕ → ℕ → ParsingScope → Changed
call_at line i =
    call_of (decimal_at line i)
    (take long_name (cells_at line (decimal_end line i)))
    (laid 0 (names_at (entry_count line i) line (first_entry line i)) (replicate max_cells 0))
    (rows_at (entry_count line i) line (first_entry line i) max_cells 0)

unfoldable pub call_end : List ℕ → ℕ → ℕ
call_end line i = entries_end (entry_count line i) line (first_entry line i)

-- The scope s after the call at i, and after so many calls from i on.
abbrev pub after_call_at : List ℕ → ℕ → ParsingScope → ParsingScope
after_call_at line i s = after_change (call_at line i s) s

unfoldable pub after_calls : ℕ → List ℕ → ℕ → ParsingScope → ParsingScope
after_calls zero line i s = s
after_calls (suc n) line i s = after_calls n line (call_end line i) (after_call_at line i s)

-- The scope whose calls are counted at i.
abbrev pub scope_at : List ℕ → ℕ → ParsingScope
scope_at line i = after_calls (decimal_at line i) line (decimal_end line i) opened
