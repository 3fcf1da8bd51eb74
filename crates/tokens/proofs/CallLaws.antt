-- The token call: the host's refusals in their order, a start token, or the token reader from the position on.
use Rattle.std.specs.Prelude.{Option, None, Some, Err}
use mathlib.Core.Path.{◌≡◌, refl, ap, ◌∙◌, subst}
use mathlib.Core.Bool.{Bool, true, false, cond, ◌||◌}
use mathlib.Core.List.{List}
use Prim.Native.Nat.{ℕ, ◌+◌, ◌-◌, ◌*◌, ◌≤◌}
use native.Mathlib.Omega.{arith}
use lib.Dec.{ltb}
use borrow.Author.Tests.{ltb-false}
use lib.ListN.{length, take, drop, length-drop}
use lib.Seq.{take_all}
use Rattle.reading.specs.Look.{run}
use Rattle.reading.specs.Cells.{maybe}
use Rattle.reading.specs.Slices.{zeros}
use Rattle.reading.proofs.Test.{by_test}
use Rattle.text.specs.Limits.{max_chars}
use Rattle.text.specs.Refusals.{too_long, short_slice, broken_scope, beyond_text}
use Rattle.text.specs.RefusalNumber.{number_of}
use Rattle.scope.specs.Entries.{ParsingScope}
use Rattle.scope.specs.Keys.{is_name}
use Rattle.scope.specs.Lent.{Lent, is_broken, scope_of}
use Rattle.lexer.specs.Lexer as spec
use Rattle.lexer.specs.Lexer.{State, start_types, step, next_token}
use Rattle.lexer.specs.Token.{read_token}
use Rattle.lexer.specs.FlagsOf.{flags_of}
use Rattle.lexer.specs.Taken.{Taken}
use Rattle.tokens.specs.CalledBy.{state_of, refusal_of, Stepped, CalledBy, standing}
use Rattle.tokens.specs.declared.call.Lexer.{Lexer}
use Rattle.tokens.specs.declared.call.Called.{Called}
use Rattle.lexer.specs.declared.token.Outcome.{Outcome}
use Rattle.text.specs.declared.refusal.Refusal.{Refusal}
use Rattle.lexer.proofs.TokenFacts.{sound}
use Rattle.lexer.proofs.AnsweredLaws.{Typed, formed_typed, says_coded}

-- What an accepted call was lent.
pub accepted : (l : Lent) (p n output scratch : ℕ) → refusal_of l p n output scratch ≡ None → (n ≤ max_chars) × (p ≤ n) × (n ≤ output) × (2 * n ≤ scratch)
accepted l p n output scratch = go (ltb max_chars n) refl (ltb n p) refl (is_broken l) (ltb output n) refl (ltb scratch (2 * n)) refl
  where
    go : (a : Bool) → ltb max_chars n ≡ a → (b : Bool) → ltb n p ≡ b → (c : Bool) → (d : Bool) → ltb output n ≡ d → (e : Bool) → ltb scratch (2 * n) ≡ e
        → cond a (Some too_long) (cond b (Some beyond_text) (cond c (Some broken_scope) (cond (d || e) (Some short_slice) None))) ≡ None → (n ≤ max_chars) × (p ≤ n) × (n ≤ output) × (2 * n ≤ scratch)
    go true x b y c d v e w h = absurd (cc)
    go false x true y c d v e w h = absurd (cc)
    go false x false y true d v e w h = absurd (cc)
    go false x false y false true v e w h = absurd (cc)
    go false x false y false false v true w h = absurd (cc)
    go false x false y false false v false w h = (ltb-false max_chars n x, ltb-false n p y, ltb-false output n v, ltb-false scratch (2 * n) w)

-- The token from the position on.
module _ (scope : ParsingScope) (l : Lexer) (t : List ℕ) {o o' : List ℕ} {r : Outcome} (x : Taken (take (length t - l.position) (drop l.position t)) (is_name scope) (flags_of l.flags) o r o') where
  rest_whole : take (length t - l.position) (drop l.position t) ≡ drop l.position t
  rest_whole = take_all (length t - l.position) (drop l.position t) (rw length-drop (omega arith))

  rest-taken : Taken (drop l.position t) (is_name scope) (flags_of l.flags) o r o'
  rest-taken = subst (λ y. Taken y (is_name scope) (flags_of l.flags) o r o') rest_whole x

  pub step-within : length t ≤ max_chars → l.position ≤ length t → l.position + r.used ≤ length t
  step-within small h =
      let s = sound (is_name scope) (flags_of l.flags) (drop l.position t) (rw length-drop (omega arith)) in
      omega (arith, ap (λ y. y.answer.used) rest-taken.sees.same, s.in_text, length-drop l.position t)

  pub step_token : l.due ≡ None
      → Stepped (step scope (state_of l) t) o (record { read = r.read; place = l.position + r.used; next = record { position = l.position + r.used; flags = r.flags; due = None } }) o'
  step_token e =
      let s = ap (λ y. y.answer) rest-taken.sees.same in
      rw (e, s) (record { read = rest-taken.shown; place = refl; next = refl; left = rest-taken.left })

module _ (lent : Lent) (s : State) (t output scratch : List ℕ) where
  answered : Option ℕ → spec.Called
  answered n = maybe n (spec.called lent s t output scratch (step (scope_of lent) s t)) (spec.refuse lent s t output scratch)

  answered_by : next_token lent s t output scratch ≡ answered (refusal_of lent s.position (length t) (length output) (length scratch))
  unfolding answered
  answered_by = go (ltb max_chars (length t)) (ltb (length t) s.position) (is_broken lent) (ltb (length output) (length t) || ltb (length scratch) (2 * length t))
    where
      go : (a b c d : Bool)
          → cond a (spec.refuse lent s t output scratch too_long) (cond b (spec.refuse lent s t output scratch beyond_text) (cond c (spec.refuse lent s t output scratch broken_scope)
          (cond d (spec.refuse lent s t output scratch short_slice) (spec.called lent s t output scratch (step (scope_of lent) s t))))) ≡ answered (cond a (Some too_long) (cond b (Some beyond_text) (cond c (Some broken_scope) (cond d (Some short_slice) None))))
      go true b c d = refl
      go false true c d = refl
      go false false true d = refl
      go false false false true = refl
      go false false false false = refl

-- Of a text within the limits a Boolean and a number are read with their own types; a start token has no value.
step_typed : (lent : Lent) (s : State) (t : List ℕ) → length t ≤ max_chars → Typed (step (scope_of lent) s t).read
step_typed lent s t limit = go s.pending
  where
    go : (k : Option ℕ) → Typed (maybe k (spec.advanced s.position (run (drop s.position t) (read_token (is_name (scope_of lent)) s.flags)).answer) (λ k. record { read = spec.start_read k; next = spec.state s.position s.flags None })).read
    go (Some k) = tt
    go None = formed_typed (run (drop s.position t) (read_token (is_name (scope_of lent)) s.flags)).answer.read (sound (is_name (scope_of lent)) s.flags (drop s.position t) (rw length-drop (omega arith))).formed

module _ (lent : Lent) (l : Lexer) (t o scratch : List ℕ) {scratch' : List ℕ} (clean : scratch' ≡ zeros (length scratch)) where
  pub call_refused : (n : Refusal) → refusal_of lent l.position (length t) (length o) (length scratch) ≡ Some (number_of n) → CalledBy (next_token lent (state_of l) t o scratch) (record { read = Err (record { refusal = n; carry = 0 }); place = l.position; next = l }) o scratch'
  unfolding answered
  call_refused n e = rw (answered_by lent (state_of l) t o scratch, e) (record { read = record { means = refl; size = refl }; place = refl; next = refl; left = refl; clean = clean })

  pub call_made : refusal_of lent l.position (length t) (length o) (length scratch) ≡ None → {sound : Lent} → sound ≡ lent → {r : Called} {o' : List ℕ} → Stepped (step (scope_of sound) (state_of l) t) o r o' → CalledBy (next_token lent (state_of l) t o scratch) r o' scratch'
  unfolding answered
  call_made e h {r} {o'} given = let s = subst (λ y. Stepped (step (scope_of y) (state_of l) t) o r o') h given in rw (answered_by lent (state_of l) t o scratch, e) (record {
    read = says_coded (step (scope_of lent) (state_of l) t).read (step_typed lent (state_of l) t (accepted lent l.position (length t) (length o) (length scratch) e).0) s.read o s.left;
    place = s.place;
    next = s.next;
    left = s.left;
    clean = clean;
  })

-- The place of a call is the position of the state after it, refused or not.
place_is : (lent : Lent) (s : State) (t output scratch : List ℕ) → (next_token lent s t output scratch).next.position ≡ (next_token lent s t output scratch).place
place_is lent s t output scratch =
    by_test P (ltb max_chars (length t)) (λ _. refl)
    (λ _. by_test P (ltb (length t) s.position) (λ _. refl)
    (λ _. by_test P (is_broken lent) (λ _. refl)
    (λ _. by_test P (ltb (length output) (length t) || ltb (length scratch) (2 * length t)) (λ _. refl) (λ _. refl))))
  where
    P : spec.Called → Type 0
    P c = c.next.position ≡ c.place

pub call_standing : (lent : Lent) (s : State) (t output scratch : List ℕ) {r : Called} {o' scratch' : List ℕ} → CalledBy (next_token lent s t output scratch) r o' scratch'
    → CalledBy (next_token lent s t output scratch) (standing r.read r.next) o' scratch'
call_standing lent s t output scratch x = record { read = x.read; place = ap (λ (y : State). y.position) x.next ∙ place_is lent s t output scratch; next = x.next; left = x.left; clean = x.clean }
