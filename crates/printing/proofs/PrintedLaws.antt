-- What is opened is no longer than its bytes, and what a run leaves is the record of its items.
use Rattle.std.specs.Prelude.{Option, None, Some, Result, Ok, Err}
use mathlib.Core.Path.{◌≡◌, refl, sym, ap, ◌∙◌, subst}
use mathlib.Core.Bool.{false}
use mathlib.Core.List.{List, [], ◌∷◌}
use Prim.Native.Nat.{ℕ, zero, suc, ◌+◌, ◌-◌, ◌*◌, ◌≤◌}
use native.Mathlib.Omega.{arith}
use borrow.Author.Tests.{le-ltb}
use lib.ListN.{length, take, drop, length-append}
use lib.Seq.{take-append_seam}
use Rattle.reading.specs.Cells.{maybe}
use Rattle.reading.specs.Slices.{front}
use Rattle.text.specs.Limits.{max_chars, max_bytes}
use Rattle.text.specs.Utf8.{Decoded, chars, bad_at, sequence, with_char, decoded_from, decoded, Opened, opened, refused, opening, open_bytes}
use Rattle.text.specs.Opening.{opening_of}
use Rattle.scope.specs.Entries as entries
use Rattle.scope.specs.Keys.{is_name}
use Rattle.scope.specs.Lent.{Lent, is_broken, scope_of}
use Rattle.lexer.specs.Flags.{Flags}
use Rattle.lexer.specs.Token.{read_token}
use Rattle.runs.specs.declared.call.Counts.{Counts}
use Rattle.runs.proofs.RunCallLaws.{made_of, refused_by}
use Rattle.std.specs.Prelude.{Result, Ok, Err}
use Rattle.text.specs.RefusalNumber.{number_of}
use Rattle.text.specs.declared.refusal.Refusal.{Refusal}
use Rattle.runs.specs.Item.{Item}
use Rattle.runs.specs.Run.{run_items}
use Rattle.runs.specs.Record.{rows_from, store_of, pack, unpack}
use Rattle.runs.specs.Calls.{Room, made, room_after, run_call, run_record}
use Rattle.runs.specs.Ran.{numbered, answer_of, Ran}
use Rattle.runs.specs.Print.{lines, refused_line, printed_of, printed}
use Rattle.runs.proofs.RecordLaws.{row_count_lem, unpacked}
use Rattle.runs.proofs.CallLaws.{checked_made}
use Rattle.printing.specs.Room.{max_input}
use Rattle.printing.proofs.RoomLaws.{lines_short}

-- Each character has a byte of its own.
abbrev count : Decoded → ℕ
count (chars cs) = length cs
count (bad_at p) = 0

with_char_lem : (c : ℕ) (d : Decoded) → count (with_char c d) ≤ suc (count d)
with_char_lem c (chars cs) = omega arith
with_char_lem c (bad_at p) = omega arith

one_more : (o : Option (ℕ × ℕ)) (p n : ℕ) (f : ℕ → Decoded) → ((k : ℕ) → count (f k) ≤ n) → count (maybe o (bad_at p) (λ s. with_char s.0 (f (s.1 - 1)))) ≤ suc n
one_more None p n f h = omega arith
one_more (Some s) p n f h = omega (arith, with_char_lem s.0 (f (s.1 - 1)), h (s.1 - 1))

few_chars : (skip p : ℕ) (bs : List ℕ) → count (decoded_from skip p bs) ≤ length bs
unfolding decoded_from
few_chars zero p [] = omega arith
few_chars (suc skip) p [] = omega arith
few_chars (suc skip) p (b ∷ bs) = omega (arith, few_chars skip (suc p) bs)
few_chars zero p (b ∷ bs) = one_more (sequence (b ∷ bs)) p (length bs) (λ k. decoded_from k (suc p) bs) (λ k. few_chars k (suc p) bs)

-- With room for so many characters nothing depends on the room.
any_room : (m : ℕ) (d : Decoded) → count d ≤ m → m ≤ max_chars → opening m d ≡ opening max_chars d
any_room m (bad_at p) h l = refl
any_room m (chars cs) h l = rw (le-ltb max_chars (length cs) (omega arith), le-ltb m (length cs) h)

module _ (bytes cells : List ℕ) (few : length bytes ≤ max_input) (room : length cells ≡ max_input) {r : Result ℕ (ℕ × ℕ)} (answer : r ≡ opening_of (open_bytes bytes (length cells))) where
  all-fits : open_bytes bytes (length cells) ≡ open_bytes bytes max_chars
  all-fits = rw (le-ltb max_bytes (length bytes) (omega arith)) (any_room (length cells) (decoded bytes) (omega (arith, few_chars 0 0 bytes)) (omega arith))

  printed-is : printed_of (open_bytes bytes max_chars) ≡ printed bytes
  printed-is = rw (le-ltb max_input (length bytes) few)

  pub printed_refused : {n p : ℕ} → r ≡ Err (n, p) → refused_line n p ≡ printed bytes
  printed_refused {n} {p} e = go (open_bytes bytes max_chars) (sym e ∙ answer ∙ ap opening_of all-fits) ∙ printed-is
    where
      go : (o : Opened) → ◌≡◌ {A = Result ℕ (ℕ × ℕ)} (Err (n, p)) (opening_of o) → refused_line n p ≡ printed_of o
      go (opened cs) q = cc
      go (refused m s) q =
          let r : ◌≡◌ {A = ℕ × ℕ} (n, p) (m, s) = cc in
          rw (ap (λ x. x.0) r, ap (λ x. x.1) r)

-- The rows and the store hold the record of n items.
pub record Recorded (is : List Item) (n : ℕ) (rows : List (List ℕ)) (store : List ℕ) : Type 0 where
  pub within : n ≤ length rows
  pub back : unpack (record { rows = take n rows; store = store }) ≡ is
  pub fits : length (lines 0 (unpack (record { rows = take n rows; store = store }))) ≤ 56 * length rows + 11 * length store

recorded : (is : List Item) (n : ℕ) (rows : List (List ℕ)) (store : List ℕ) → n ≡ length (rows_from 0 is) → Recorded is n (front (rows_from 0 is) rows) (front (store_of is) store)
recorded is n rows store e =
    let R = rows_from 0 is in
    let S = store_of is in
    let a = length-append R (drop (length R) rows) in
    let b = length-append S (drop (length S) store) in
    let back : unpack (record { rows = take n (front R rows); store = front S store }) ≡ is = rw (e, take-append_seam R (drop (length R) rows)) (unpacked (drop (length S) store) is) in
    record { within = omega arith; back = back; fits = rw back (omega (arith, lines_short 0 is, row_count_lem 0 is)) }

module _ {l : Lent} {k : ℕ} {f : Flags} {t : List ℕ} {room : Room} {r : Result Counts Refusal} {room' : Room} (ran : Ran l k f t room r room') {s : entries.ParsingScope} (scope : scope_of l ≡ s)
    (whole : is_broken l ≡ false) (short : length t ≤ max_input) (rows_long : max_input + 2 ≤ length room.rows) (store_long : max_input ≤ length room.store) (scratch_long : 2 * max_input ≤ length room.scratch) where
  called : run_call l room k f t ≡ made (pack (run_items (read_token (is_name s)) k f t))
  called =
      checked_made l room (length t) (run_record (scope_of l) k f t) (record { within = omega arith; whole = whole; rows_long = omega arith; store_long = omega arith; scratch_long = omega arith })
      ∙ ap (λ s. made (run_record s k f t)) scope

  -- The answer is that of the run's record.
  abbrev pub counts : Counts
  counts = let is = run_items (read_token (is_name s)) k f t in record { items = length (rows_from 0 is); cells = length (store_of is) }

  pub run-recorded : {c : Counts} → r ≡ Ok c → Recorded (run_items (read_token (is_name s)) k f t) c.items room'.rows room'.store
  run-recorded {c} e =
      let is = run_items (read_token (is_name s)) k f t in
      let q : made_of c ≡ made_of counts = sym (ap numbered e) ∙ ran.answer ∙ ap answer_of called in
      let y : c ≡ counts = cc in
      let z : c.items ≡ length (rows_from 0 is) = ap (λ x. x.items) y in
      let w : room' ≡ room_after (made (pack is)) room = ran.left ∙ ap (λ a. room_after a room) called in
      subst (λ x. Recorded is c.items x.rows x.store) (sym w) (recorded is c.items room.rows room.store z)

  pub run-taken : {m : Refusal} → r ≡ Err m → ⊥
  run-taken {m} e =
      let q : refused_by (number_of m) ≡ made_of counts = sym (ap numbered e) ∙ ran.answer ∙ ap answer_of called in
      cc
