-- A run of items over a text, with any reader of tokens.
use Rattle.std.specs.Prelude.{cond, List, [], ◌∷◌, ℕ, zero, suc, ◌+◌, length, drop}
use Rattle.reading.specs.Look.{Look, Seen, run}
use Rattle.lexer.specs.Flags.{Flags}
use Rattle.lexer.specs.Read.{Outcome}
use Rattle.lexer.specs.Lexer.{start_read}
use Rattle.runs.specs.Item.{Item, item, ends_run}

abbrev pub Reader : Type 0
Reader = Flags → Look Outcome

-- What was read of the text from p on, placed there.
abbrev pub placed : ℕ → Seen Outcome → Item
placed p s = item s.answer.read (p + s.answer.used) s.answer.flags (p + s.reach)

-- What is read of the rest of a text, and how far was looked.
abbrev pub seen : Reader → List ℕ → Flags → Seen Outcome
seen tok rest f = run rest (tok f)

-- What a token call gives from position p on.
abbrev pub item_at : Reader → List ℕ → ℕ → Flags → Item
item_at tok t p f = placed p (seen tok (drop p t) f)

-- At most n items, each from the state after the one before, to the first that ends the run.
unfoldable pub items : Reader → ℕ → List ℕ → ℕ → Flags → List Item
items tok zero t p f = []
items tok (suc n) t p f =
    let i = item_at tok t p f in
    i ∷ cond (ends_run i) [] (items tok n t i.position i.flags)

-- The start token has looked at nothing.
abbrev pub start_item : ℕ → Flags → Item
start_item k f = item (start_read k) 0 f 0

-- 01: a run starts with the start token; a text of n characters gives at most n + 2 items.
abbrev pub run_items : Reader → ℕ → Flags → List ℕ → List Item
run_items tok k f t = start_item k f ∷ cond (ends_run (start_item k f)) [] (items tok (length t + 1) t 0 f)
