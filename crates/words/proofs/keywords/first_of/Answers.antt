-- The search has come to a word that begins as the window does, with its reach.
use Rattle.words.proofs.KeywordLaws.{search_begun, search_place, search_row, search_less, search_more, search_hit, search_end}
use mathlib.Core.Path.{sym, ◌∙◌}
use borrow.Author.Rules.{rules}
use native.Mathlib.Omega.{arith}
use Rattle.words.proofs.keywords.first_of.Goals as goal

pub loop-next-init : goal.loop-next-init
loop-next-init c = let z = c.requires in search_begun z.0 z.3 (omega arith) z.2

pub offset_bounds-words-k : goal.offset_bounds-words-k
offset_bounds-words-k c = let b = search_row c.in-Some.k c.requires.0 (search_place c.in-Some.k c.loop-next.invariant c.in-Some.is) in search (rules, b.2)

pub bounds-words-k : goal.bounds-words-k
bounds-words-k c = (search_row c.in-Some.k c.requires.0 (search_place c.in-Some.k c.loop-next.invariant c.in-Some.is)).2

pub try_word-m-requires : goal.try_word-m-requires
try_word-m-requires c =
    let z = c.requires in
    let s = search_place c.in-Some.k c.loop-next.invariant c.in-Some.is in
    ((search_row c.in-Some.k z.0 s).0, z.3, omega arith, omega arith, omega arith)

pub returns-then-is_some : goal.returns-then-is_some
returns-then-is_some c =
    search_hit c.in-Some.k c.requires.0 (search_place c.in-Some.k c.loop-next.invariant c.in-Some.is) _ _ c.try_word-m.ensures (sym c.is_some.ensures ∙ c.if-is_some.true)

pub loop-next-preserved : goal.loop-next-preserved
loop-next-preserved c =
    let z = c.requires in
    search_more c.in-Some.k z.0 (search_place c.in-Some.k c.loop-next.invariant c.in-Some.is) _ _ c.try_word-m.ensures (sym c.is_some.ensures ∙ c.if-is_some.false) z.3 z.1

pub loop-next-smaller : goal.loop-next-smaller
loop-next-smaller c = let z = c.requires in search_less c.in-Some.k z.0 (search_place c.in-Some.k c.loop-next.invariant c.in-Some.is) z.1 c.in-Some.is

pub returns : goal.returns
returns c = search_end c.loop-next.invariant c.in_default.is (omega arith)
