-- One record carries the search through the rising ranges.
use native.Mathlib.Omega.{arith}
use Rattle.text.proofs.RangeLaws.{search_none, search_below, search_in, search_more, search_end}
use Rattle.text.proofs.classes.in_ranges.Goals as goal

pub loop-first-init : goal.loop-first-init
loop-first-init c = search_none c.requires

pub returns-then-c-first : goal.returns-then-c-first
returns-then-c-first c = search_below c.loop-first.invariant (omega arith) (omega arith)

pub returns-then-c-last : goal.returns-then-c-last
returns-then-c-last c = search_in c.loop-first.invariant (omega arith) (omega arith) (omega arith)

pub loop-first-preserved : goal.loop-first-preserved
loop-first-preserved c = search_more c.loop-first.invariant (omega arith) (omega arith) (omega arith)

pub returns : goal.returns
returns c = search_end c.loop-first.invariant (omega arith)
