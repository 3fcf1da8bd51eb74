-- The model of a scope: the entries of its stacked contexts, and the parsed names.
use Rattle.std.specs.Prelude.{ℕ, List, []}

-- An entry of a context: kind 0 is a variable, 1 a context, whose own entries follow one deeper.
-- Contexts are numbered from 1, the bottom of the stack.
pub record Entry : Type 0 where
  pub context : ℕ
  pub depth : ℕ
  pub kind : ℕ
  pub name : List ℕ

abbrev pub variable : ℕ
variable = 0

abbrev pub context_kind : ℕ
context_kind = 1

-- The Rust's `ParsingScope`: how many contexts are stacked, their entries from the bottom up, and the set of parsed names.
pub record ParsingScope : Type 0 where
  pub contexts : ℕ
  pub entries : List Entry
  pub parsed : List (List ℕ)

-- 01: it opens with one empty context.
abbrev pub opened : ParsingScope
opened = record { contexts = 1; entries = []; parsed = [] }
