-- State and answers as they cross to C: a few numbers each, at fixed places.
use Rattle.std.specs.Prelude.{Bool, cond, ◌&&◌, List, [], ◌∷◌, ℕ, suc, eqb, leb, ltb, length, get_or, None, Some}
use Rattle.reading.specs.Cells.{maybe}
use Rattle.scope.specs.Limits.{max_contexts}
use Rattle.scope.specs.Lent.{Lent}
use Rattle.scope.specs.Answers.{lent}
use Rattle.scope.specs.declared.scope.Scope.{Scope}
use Rattle.lexer.specs.Lexer.{State, state}
use Rattle.runs.specs.Record.{flag_bits, bit_flags}

-- One more with each change of a size, a place or a number's meaning below.
abbrev pub version : ℕ
version = 1

-- The places of an answer: place of the refusal or token, token type, length of a text, value or store, a number's three lengths, the extra number of an item, items.
abbrev pub answer_size : ℕ
answer_size = 8

abbrev pub answer : ℕ → ℕ → ℕ → ℕ → ℕ → ℕ → ℕ → ℕ → List ℕ
answer place type length before after exponent extra items = place ∷ type ∷ length ∷ before ∷ after ∷ exponent ∷ extra ∷ items ∷ []

abbrev pub items_at : ℕ
items_at = 7

-- A place, with the carry of a refusal.
abbrev pub placed : ℕ → ℕ → List ℕ
placed place carry = answer place 0 0 0 0 0 carry 0

-- Counts of cells and items.
abbrev pub counted : ℕ → ℕ → List ℕ
counted length items = answer 0 0 length 0 0 0 0 items

-- The counts of a scope are three numbers. More or fewer stand for counts that no scope has, so every call refuses them as a broken scope.
abbrev pub scope_size : ℕ
scope_size = 3

abbrev pub is_scope : List ℕ → Bool
is_scope ns = eqb (length ns) scope_size

abbrev pub counts_of : List ℕ → Scope
counts_of ns =
    cond (is_scope ns) (record { contexts = get_or ns 0 0; entries = get_or ns 1 0; parsed = get_or ns 2 0 })
    (record { contexts = suc max_contexts; entries = 0; parsed = 0 })

-- With the rows that are lent beside them.
abbrev pub lent_of : List ℕ → List (List ℕ) → List (List ℕ) → Lent
lent_of ns slots names = lent (counts_of ns) slots names

-- A lexer: position, flags, whether a start token is due, and of which type.
abbrev pub lexer_size : ℕ
lexer_size = 4

abbrev pub state_at : List ℕ → State
state_at ns = state (get_or ns 0 0) (bit_flags (get_or ns 1 0)) (cond (eqb (get_or ns 2 0) 1) (Some (get_or ns 3 0)) None)

abbrev pub lexer_numbers : State → List ℕ
lexer_numbers s = s.position ∷ flag_bits s.flags ∷ maybe s.pending 0 (λ k. 1) ∷ maybe s.pending 0 (λ k. k) ∷ []

abbrev pub all_flags : ℕ
all_flags = 31

-- 1 where a start token is due, of any type; 0 where none is, with 0 for its type.
abbrev pub is_pending : ℕ → ℕ → Bool
is_pending pending type = cond (eqb pending 0) (eqb type 0) (eqb pending 1)

-- Whether numbers are those of a lexer, its start type a number of 32 bits.
unfoldable pub is_lexer : List ℕ → Bool
is_lexer ns = eqb (length ns) lexer_size && (leb (get_or ns 1 0) all_flags && (ltb (get_or ns 3 0) 4_294_967_296 && is_pending (get_or ns 2 0) (get_or ns 3 0)))
