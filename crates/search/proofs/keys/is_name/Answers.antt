-- No name is longer than the longest key; then the parsed names, and the keys of all eight levels from depth 0 on.
use mathlib.Core.Path.{◌∙◌, ap}
use Rattle.names.specs.Same.{member}
use Rattle.scope.specs.Keys.{levels}
use Rattle.scope.specs.Answers.{lent}
use Rattle.search.proofs.LongestLaws.{name_too_long, name_parsed, name_key}
use Rattle.search.proofs.keys.is_name.Goals as goal

pub returns-then-text-gt-LONGEST_KEY : goal.returns-then-text-gt-LONGEST_KEY
returns-then-text-gt-LONGEST_KEY c = let a = c.args.scope in name_too_long (lent a.counts a.slots.now a.names.now) c.args.text.now a.sound c.if-text-gt-LONGEST_KEY.true

pub returns-then-has_name : goal.returns-then-has_name
returns-then-has_name c =
    let a = c.args.scope in
    c.if-has_name.true ∙ name_parsed (lent a.counts a.slots.now a.names.now) c.args.text.now (c.has_name.ensures ∙ ap (member c.args.text.now) c.parsed.ensures) c.if-has_name.true

pub returns-else-has_name : goal.returns-else-has_name
returns-else-has_name c =
    let a = c.args.scope in
    name_key (lent a.counts a.slots.now a.names.now) c.args.text.now (c.has_name.ensures ∙ ap (member c.args.text.now) c.parsed.ensures) c.if-has_name.false (c.has.ensures ∙ ap (λ es. member c.args.text.now (levels 8 0 es)) c.entries.ensures)
