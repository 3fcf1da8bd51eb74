-- A call that is refused keeps the rows, and one that is not leaves a scope that is not broken and is the model's.
use mathlib.Core.Path.{◌≡◌, refl, ap, ◌∙◌}
use mathlib.Core.Bool.{false}
use mathlib.Core.List.{List}
use Prim.Native.Nat.{ℕ, suc, ◌-◌, ◌≤◌, ◌<◌}
use native.Mathlib.Omega.{arith}
use Rattle.std.specs.Prelude.{Ok, Err}
use Rattle.std.specs.Result.{result_unwrap_or}
use Rattle.scope.specs.declared.scope.Scope.{Scope}
use Rattle.scope.specs.Entries.{ParsingScope}
use Rattle.scope.specs.Calls.{Changed}
use Rattle.scope.specs.Lent.{is_broken, scope_of, on_scope}
use Rattle.scope.specs.Answers.{Answer, lent, answer_of, Kept, Whole}
use Rattle.cases.specs.After.{after_call, after_change, call_end, after_call_at, after_calls}

-- Rows that were not lent to be changed.
pub kept_same : (a : Answer) (rows : List (List ℕ)) → Kept a rows rows
kept_same (Ok s) rows = tt
kept_same (Err e) rows = refl

pub after_is : (a : Answer) (s : Scope) → result_unwrap_or a s ≡ after_call a s
after_is (Ok next) s = refl
after_is (Err e) s = refl

pub still_whole : (a : Answer) (s : Scope) (ss ns ss' ns' : List (List ℕ)) → Kept a ss ss' → Kept a ns ns' → Whole a ss' ns' → is_broken (lent s ss ns) ≡ false → is_broken (lent (after_call a s) ss' ns') ≡ false
still_whole (Ok next) s ss ns ss' ns' k l w h = w
still_whole (Err e) s ss ns ss' ns' k l w h = rw (k, l) h

-- The scope after a call is the model's.
after-change : (a : Answer) (s : Scope) (ss ns ss' ns' : List (List ℕ)) → Kept a ss ss' → Kept a ns ns' → scope_of (lent (after_call a s) ss' ns') ≡ after_change (answer_of a ss' ns') (scope_of (lent s ss ns))
after-change (Ok next) s ss ns ss' ns' k l = refl
after-change (Err e) s ss ns ss' ns' k l = rw (k, l)

pub after_model : (a : Answer) (s : Scope) (ss ns ss' ns' : List (List ℕ)) (m : ParsingScope → Changed) → Kept a ss ss' → Kept a ns ns' → answer_of a ss' ns' ≡ on_scope (lent s ss ns) m → is_broken (lent s ss ns) ≡ false
    → scope_of (lent (after_call a s) ss' ns') ≡ after_change (m (scope_of (lent s ss ns))) (scope_of (lent s ss ns))
after_model a s ss ns ss' ns' m k l e h =
    let n : on_scope (lent s ss ns) m ≡ m (scope_of (lent s ss ns)) = rw h in
    after-change a s ss ns ss' ns' k l ∙ ap (λ x. after_change x (scope_of (lent s ss ns))) (e ∙ n)

-- One call more, and none left.
module _ (l : List ℕ) where
  pub calls_more : (n : ℕ) (i : ℕ) (s : ParsingScope) {i' : ℕ} {s' : ParsingScope} → 0 < n → i' ≡ call_end l i → s' ≡ after_call_at l i s → after_calls n l i s ≡ after_calls (n - 1) l i' s'
  unfolding after_calls
  calls_more n i s h e q =
      let z : n ≡ suc (n - 1) = omega arith in
      ap (λ m. after_calls m l i s) z ∙ rw (e, q)

  pub calls_over : (n : ℕ) (i : ℕ) (s : ParsingScope) → n ≤ 0 → after_calls n l i s ≡ s
  unfolding after_calls
  calls_over n i s h = let z : n ≡ 0 = omega arith in rw z
