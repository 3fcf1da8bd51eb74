-- The rows stay as many, and each call leaves a scope that is not broken and is the model's.
use Rattle.std.proofs.Common.{◌≡◌, ◌+◌, ◌-◌, ◌≤◌, false, length}
use Rattle.scope.specs.Limits.{max_entries, max_parsed}
use Rattle.scope.specs.Lent.{is_broken, scope_of}
use Rattle.scope.specs.Answers.{lent}
use Rattle.cases.specs.After.{after_calls, scope_at}
use Rattle.cases.proofs.calls.scope_of.Given as goal

abbrev pub invariant-loop : goal.invariant-loop
invariant-loop l =
    (l.fields.line ≡ l.fn.fields.line)
    × (max_entries + max_parsed ≤ length l.initial.slots → max_entries + max_parsed ≤ length l.initial.names →
    (is_broken (lent l.s l.slots l.names) ≡ false) × (scope_at l.fn.fields.line.now l.fn.fields.at ≡ after_calls (l.end - l.counter) l.fn.fields.line.now l.fields.at (scope_of (lent l.s l.slots l.names))))
