-- A run in code: the start item, one more item, and the whole record behind the last.
use mathlib.Core.Path.{◌≡◌, refl, sym, ap, ◌∙◌, subst}
use mathlib.Core.Bool.{Bool, false, cond}
use mathlib.Core.List.{List, [], ◌∷◌, ◌++◌, append-nil, append_assoc}
use Prim.Native.Nat.{ℕ, suc, ◌+◌, ◌-◌, ◌≤◌, ◌<◌}
use native.Mathlib.Nat.{le_refl}
use native.Mathlib.Omega.{arith}
use borrow.Rule.Slice.PartMut.{put_mid}
use lib.Dec.{eqb}
use lib.ListN.{length, get_or, take, drop, set, length-drop, drop_of_length-le}
use lib.Seq.{take_all}
use Rattle.reading.specs.Look.{run}
use Rattle.reading.specs.Goes.{got}
use Rattle.reading.specs.Cells.{is_one_of}
use Rattle.reading.specs.Slices.{front}
use Rattle.text.specs.Limits.{max_chars}
use Rattle.lexer.specs.Flags as spec
use Rattle.lexer.specs.Read.{outcome, cells_of, is_last}
use Rattle.lexer.specs.FlagsOf.{flags_of}
use Rattle.lexer.specs.Lexer.{start_types}
use Rattle.lexer.specs.Answered.{plain, told, cell_count}
use Rattle.lexer.specs.Taken.{coded, Taken}
use Rattle.lexer.proofs.AnsweredLaws.{cell-count}
use Rattle.lexer.specs.Token.{read_token}
use Rattle.lexer.specs.TokenType
use Rattle.lexer.specs.declared.flags.Flags.{Flags}
use Rattle.lexer.specs.declared.token.Outcome.{Outcome}
use Rattle.lexer.proofs.TokenFacts.{Sound, sound}
use Rattle.runs.specs.declared.run.Progress.{Progress}
use Rattle.runs.specs.Item.{Item, item, ends_run}
use Rattle.runs.specs.Run.{Reader, placed, item_at, items, start_item, run_items}
use Rattle.runs.specs.Record.{refused_at, number_at}
use Rattle.runs.specs.Ran.{Next, Stands}
use Rattle.runs.proofs.CodedLaws.{row_with, row_is, ends_is}
use Rattle.runs.proofs.BehindLaws.{behind-one, behind_more}

module _ {k n : ℕ} {f : Flags} {r : List ℕ} {rows rows' : List (List ℕ)} {ended : Bool} (is_start : n ≡ cond (is_one_of start_types k) k TokenType.YyError) (is_row : r ≡ row_with 0 f 0 0 (plain n)) where
  pub stands_start : 0 < length rows → rows' ≡ set rows 0 r → ended ≡ is_last (eqb (get_or r refused_at 0) 1) (get_or r number_at 0) → (tok : Reader) (t store : List ℕ)
      → Stands tok k (flags_of f) t rows store (record { position = 0; flags = f; counts = record { items = 1; cells = 0 }; ended = ended }) rows' store
  stands_start room w e tok t store =
      let z : length t + 2 - 1 ≡ length t + 1 = omega arith in
      record {
        sofar = start_item k (flags_of f) ∷ [];
        all = rw (e, is_row, is_start, z);
        behind = behind-one {i = start_item k (flags_of f)} (record { count = refl; cells = refl; row = rw (w, is_row, is_start); value = refl }) room (omega arith);
        within = omega arith;
        short = omega arith;
        few = λ _. omega arith;
      }

pub record Found (n p : ℕ) (r : Outcome) : Type 0 where
  pub used : p + r.used ≤ n
  pub far : p + r.reach ≤ n + 12
  pub cells : cell_count (told r.read) ≤ r.used

-- What the token reader answers for the text from p on.
module _ (is_name : List ℕ → Bool) (t : List ℕ) (p : ℕ) (f : spec.Flags) {o : List ℕ} {r : Outcome} {o' : List ℕ} (w : Taken (take (length t - p) (drop p t)) is_name f o r o') (limit : length t ≤ max_chars) (within : p ≤ length t) where
  taken-same : run (drop p t) (read_token is_name f) ≡ got (outcome w.read r.used (flags_of r.flags)) r.reach
  taken-same = rw (take_all (length t - p) (drop p t) (simp length-drop (omega arith))) at w.sees.same

  taken_sound : Sound (length (drop p t)) (got (outcome w.read r.used (flags_of r.flags)) r.reach)
  taken_sound = subst (Sound (length (drop p t))) taken-same (sound is_name f (drop p t) (simp length-drop (omega arith)))

  taken_item : item w.read (p + r.used) (flags_of r.flags) (p + r.reach) ≡ item_at (read_token is_name) t p f
  taken_item = ap (placed p) (sym taken-same)

  -- Its numbers are within the limits.
  pub found : Found (length t) p r
  found =
      let s = taken_sound in
      let l = length-drop p t in
      let e : cell_count (told r.read) ≡ length (cells_of w.read) = ap cell_count w.shown ∙ cell-count w.read in
      record { used = omega (arith, s.in_text); far = omega (arith, s.near); cells = omega (arith, s.short) }

-- A slice whose rest was lent and came back.
lent_back : (s v : List ℕ) (u : ℕ) {y : List ℕ} → y ≡ front v (take (length s - u) (drop u s)) → put_mid u (length s - u) s y ≡ take u s ++ front v (drop u s)
lent_back s v u e =
    let whole : take (length s - u) (drop u s) ≡ drop u s = take_all (length s - u) (drop u s) (rw length-drop (le_refl _)) in
    let none : drop (length s - u) (drop u s) ≡ [] = drop_of_length-le (drop u s) {i = length s - u} (rw length-drop (le_refl _)) in
    rw (e, whole, none, append-nil)

-- A token that was read is the next item.
module _ (is_name : List ℕ → Bool) (t : List ℕ) (at : Progress) (store : List ℕ) {r : Outcome} {o' : List ℕ}
    (w : Taken (take (length t - at.position) (drop at.position t)) is_name (flags_of at.flags) (take (length store - at.counts.cells) (drop at.counts.cells store)) r o')
    (limit : length t ≤ max_chars) (within : at.position ≤ length t) where
  pub next_is : {row : List ℕ} {rows rows' : List (List ℕ)} {ended : Bool} {n : ℕ} → row ≡ row_with (at.position + r.used) r.flags (at.position + r.reach) at.counts.cells (told r.read)
      → rows' ≡ set rows at.counts.items row → ended ≡ is_last (eqb (get_or row refused_at 0) 1) (get_or row number_at 0) → n ≡ cell_count (told r.read)
      → Next (read_token is_name) t at rows store
      (record { position = at.position + r.used; flags = r.flags; counts = record { items = at.counts.items + 1; cells = at.counts.cells + n }; ended = ended }) rows'
      (put_mid at.counts.cells (length store - at.counts.cells) store o')
  next_is {row} {rows} {rows'} {ended} e put last size =
      let p = at.position + r.used in
      let q = at.position + r.reach in
      let s = taken_sound is_name t at.position (flags_of at.flags) w limit within in
      let l = length-drop at.position t in
      let c : row ≡ row_with p r.flags q at.counts.cells (coded w.read) = e ∙ ap (row_with p r.flags q at.counts.cells) w.shown in
      record {
        item = item w.read p (flags_of r.flags) q;
        one = taken_item is_name t at.position (flags_of at.flags) w limit within;
        position = refl;
        flags = refl;
        ended = last ∙ ap (λ x. is_last (eqb (get_or x refused_at 0) 1) (get_or x number_at 0)) c ∙ ends_is p r.flags q at.counts.cells w.read s.formed;
        written = record {
          count = refl;
          cells = ap (λ x. at.counts.cells + x) (size ∙ ap cell_count w.shown ∙ cell-count w.read);
          row = put ∙ ap (λ x. set rows at.counts.items x) (c ∙ row_is p r.flags q at.counts.cells w.read s.formed);
          value = lent_back store (cells_of w.read) at.counts.cells w.left;
        };
        short = omega (arith, s.short);
        within = omega (arith, s.in_text);
        far = (found is_name t at.position (flags_of at.flags) w limit within).far;
        onward = λ h. omega (arith, s.onward h);
      }

pub items-step : (tok : Reader) (n : ℕ) (t : List ℕ) (p : ℕ) (f : spec.Flags) {i : Item} → i ≡ item_at tok t p f → items tok (suc n) t p f ≡ i ∷ cond (ends_run i) [] (items tok n t i.position i.flags)
unfolding items
items-step tok n t p f e = subst (λ i. items tok (suc n) t p f ≡ i ∷ cond (ends_run i) [] (items tok n t i.position i.flags)) (sym e) refl

module _ {tok : Reader} {k : ℕ} {f : spec.Flags} {t : List ℕ} {rows : List (List ℕ)} {store : List ℕ} {at : Progress} {rows' : List (List ℕ)} {store' : List ℕ} (s : Stands tok k f t rows store at rows' store') where
  pub stands_more : {at'' : Progress} {rows'' : List (List ℕ)} {store'' : List ℕ} → Next tok t at rows' store' at'' rows'' store'' → at.ended ≡ false → length t + 2 ≤ length rows → length t ≤ length store
      → Stands tok k f t rows store at'' rows'' store''
  stands_more {at''} {rows''} {store''} n going room long =
      let i = n.item in
      let few = s.few going in
      let z : length t + 2 - at.counts.items ≡ suc (length t + 2 - at''.counts.items) = omega (arith, n.written.count, s.within) in
      let h : s.sofar ++ items tok (suc (length t + 2 - at''.counts.items)) t at.position (flags_of at.flags) ≡ run_items tok k f t = rw (going, z) at s.all in
      let g : s.sofar ++ (i ∷ cond (ends_run i) [] (items tok (length t + 2 - at''.counts.items) t i.position i.flags)) ≡ run_items tok k f t = rw (items-step tok (length t + 2 - at''.counts.items) t at.position (flags_of at.flags) n.one) at h in
      record {
        sofar = s.sofar ++ i ∷ [];
        all = rw (append_assoc, n.ended, n.position, n.flags) g;
        behind = behind_more s.behind (behind-one n.written (omega (arith, s.within, s.behind.as_many)) (omega (arith, n.short, n.within, s.short, s.behind.as_long)));
        within = rw n.position n.within;
        short = omega (arith, n.written.cells, n.position, n.short, s.short);
        few = λ e. omega (arith, n.written.count, n.position, n.onward (sym n.ended ∙ e));
      }
