-- Passes over the front of a slice, one for each symbol.
use Rattle.std.specs.List.{list_any}
use mathlib.Core.Path.{◌≡◌, refl, sym, ap, ◌∙◌}
use mathlib.Core.Bool.{Bool, true, false, ◌&&◌}
use mathlib.Core.List.{List, [], ◌∷◌, ◌++◌, append_assoc}
use Prim.Native.Nat.{ℕ, ◌+◌, ◌-◌, ◌≤◌, ◌<◌}
use native.Mathlib.Numerals.{add-one}
use native.Mathlib.Omega.{arith}
use lib.Dec.{eqb}
use lib.ListN.{length, take, drop, get_or, length-append, length-drop, drop_of_length-le}
use lib.Seq.{take-append_seam, length-take-le, take-suc, take_all}
use Rattle.std.proofs.lemmas.List.{take-append-le}
use Rattle.std.proofs.lemmas.Slice.{drop-append-drop}
use Rattle.reading.specs.Codes.{codes}
use Rattle.reading.specs.Cells.{is_one_of}
use Rattle.reading.specs.Span.{part}
use Rattle.reading.proofs.Test.{or_left, or_right}
use Rattle.reading.proofs.Passed.{part-drop, part_length}
use Rattle.text.specs.Classes.{is_symbol}
use Rattle.names.specs.Trim.{trim_front, trim_back, trim}
use Rattle.names.specs.Flatten.{tighten, tighten_all, flat}
use Rattle.names.specs.Spelling.{Tightened, Left}
use Rattle.names.proofs.SameLaws.{eqb_sym}

abbrev pub symbols : List ℕ
symbols = codes "./-'+*"

-- Where no cell is one of the symbols, no pass changes anything.
abbrev NoneOf : List ℕ → List ℕ → Type 0
NoneOf ss [] = Unit {0}
NoneOf ss (c ∷ cs) = (is_one_of ss c ≡ false) × NoneOf ss cs

none_here : (s : ℕ) (ss xs : List ℕ) → NoneOf (s ∷ ss) xs → tighten s xs ≡ xs
none_here s ss [] h = refl
none_here s ss (a ∷ []) h = refl
none_here s ss (a ∷ b ∷ []) h = refl
none_here s ss (a ∷ b ∷ c ∷ xs) h =
    let e : eqb b s ≡ false = eqb_sym b s ∙ or_left (eqb s b) (is_one_of ss b) h.1.0 in
    rw (e, and_none (eqb a 0x20)) (ap (λ ys. a ∷ ys) (none_here s ss (b ∷ c ∷ xs) h.1))
  where
    and_none : (t : Bool) → t && false ≡ false
    and_none true = refl
    and_none false = refl

none_behind : (s : ℕ) (ss xs : List ℕ) → NoneOf (s ∷ ss) xs → NoneOf ss xs
none_behind s ss [] h = tt
none_behind s ss (c ∷ cs) h = (or_right (eqb s c) (is_one_of ss c) h.0, none_behind s ss cs h.1)

none_all : (ss xs : List ℕ) → NoneOf ss xs → tighten_all ss xs ≡ xs
none_all [] xs h = refl
none_all (s ∷ ss) xs h = rw (none_here s ss xs h) (none_all ss xs (none_behind s ss xs h))

none_of_them : (xs : List ℕ) → list_any is_symbol xs ≡ false → NoneOf symbols xs
unfolding is_symbol
none_of_them [] h = tt
none_of_them (c ∷ cs) h = (or_left (is_symbol c) (list_any is_symbol cs) h, none_of_them cs (or_right (is_symbol c) (list_any is_symbol cs) h))

all_snoc : (ss : List ℕ) (s : ℕ) (xs : List ℕ) → tighten_all (ss ++ s ∷ []) xs ≡ tighten s (tighten_all ss xs)
all_snoc [] s xs = refl
all_snoc (t ∷ ss) s xs = all_snoc ss s (tighten t xs)

-- Of the cells o, i passes have been made: what they left stands from `from` up to `end` of c, and behind the first pass at the front.
pub record Passing (o : List ℕ) (i from end : ℕ) (c : List ℕ) : Type 0 where
  pub on : from ≤ end
  pub within : end ≤ length c
  pub same : length c ≡ length o
  pub cells : part c from end ≡ tighten_all (take i symbols) (trim o)
  pub first : 1 ≤ i → from ≤ 0

module _ {o f w : List ℕ} (front : f ≡ trim_front o) (behind : f ≡ drop (length o - length f) o) (few : length f ≤ length o)
    (whole : w ≡ trim_back f) (before : w ≡ take (length w) f) (fewer : length w ≤ length f) where
  pub passing_none : Passing o 0 (length o - length f) (length o - length f + length w) o
  unfolding trim
  passing_none =
      let z : length o - length f + length w - (length o - length f) ≡ length w = omega arith in
      record {
        on = omega arith;
        within = omega arith;
        same = refl;
        cells = rw (z, ← behind, ← before, whole, front);
        first = λ h. absurd (omega arith);
      }

-- A part of the cells up to an end is a part of them all.
part-take : (c : List ℕ) (from end : ℕ) → end ≤ length c → part (take end c) from (length (take end c)) ≡ part c from end
part-take c from end h =
    let z : end - 0 ≡ end = omega arith in
    let y : 0 + from ≡ from = omega arith in
    let d : drop from (take end c) ≡ part c from end = rw (z, y) at (part-drop c 0 end from) in
    rw (length-take-le end c h, d) (take_all (end - from) (part c from end) (omega (arith, part_length c from end h)))

-- The trimmed cells are flat as they stand if no cell of them is a symbol.
bare_same : (o : List ℕ) {ts : List ℕ} → ts ≡ trim o → list_any is_symbol ts ≡ false → ts ≡ flat o
unfolding flat
bare_same o x n = x ∙ sym (none_all symbols (trim o) (none_of_them (trim o) (rw x at n)))

pub flat_bare : {o : List ℕ} {n e : ℕ} → n ≤ length o → e ≤ n → take e o ≡ trim (take n o) → list_any is_symbol (take e o) ≡ false → Left o (flat (take n o)) n e o
flat_bare {o} {n} {e} l m t b = let y = bare_same (take n o) t b in record { size = sym (ap length (sym y) ∙ length-take-le e o (omega arith)); room = m; front = y; behind = refl; same = refl }

module _ {o c : List ℕ} {i from end : ℕ} (p : Passing o i from end c) where
  -- The cells up to the end, taken apart, are passed over once more.
  pub passing_more : {k : ℕ} {t : List ℕ} → i < 6 → Tightened (get_or symbols i 0) (take end c) from (length (take end c)) k t → Passing o (i + 1) 0 k (t ++ drop end c)
  passing_more {k} {t} l w =
      let h = p.within in let e = p.same in let n = w.less in
      let s = get_or symbols i 0 in
      let v = tighten s (part (take end c) from (length (take end c))) in
      let m : length t ≡ end = w.same ∙ length-take-le end c h in
      let z : k - 0 ≡ k = omega arith in
      let f : take k (t ++ drop end c) ≡ v = rw (w.wrote.left, append_assoc, w.wrote.size) (take-append_seam v _) in
      record {
        on = omega arith;
        within = omega (arith, length-append t (drop end c), length-take-le end c h);
        same = length-append t (drop end c) ∙ omega (arith, length-drop end c);
        cells = rw (z, f, part-take c from end h, p.cells, add-one, take-suc symbols i 0 l) (sym (all_snoc (take i symbols) s (trim o)));
        first = λ _. omega arith;
      }

  left_at : take end c ≡ flat o → Left o (flat o) (length o) end c
  left_at e =
      let h = p.within in let q = p.same in
      record {
        size = omega (arith, ap length e, length-take-le end c h);
        room = omega arith;
        front = e;
        behind = drop_of_length-le c (omega arith) ∙ sym (drop_of_length-le o (omega arith));
        same = q;
      }

  at_front : from ≡ 0 → take end c ≡ tighten_all (take i symbols) (trim o)
  at_front z = let y : end - 0 ≡ end = omega arith in rw (z, y) at p.cells

  pub passing_bare : i ≡ 0 → from ≡ 0 → list_any is_symbol (take end c) ≡ false → Left o (flat o) (length o) end c
  passing_bare h z n = left_at (bare_same o (rw h at (at_front z)) n)

  pub passing_all : 6 ≤ i → Left o (flat o) (length o) end c
  unfolding flat
  passing_all h = left_at (rw (take_all i symbols h) at (at_front (omega (arith, p.first (omega arith)))))

-- The first k cells of o made flat, seen in all of them.
pub left_within : {o v t : List ℕ} {k j : ℕ} → k ≤ length o → Left (take k o) v (length (take k o)) j t → Left o v k j (t ++ drop k o)
left_within {o} {v} {t} {k} {j} h f =
    let z = length-take-le k o h in
    let m : length t ≡ k = f.same ∙ z in
    let l : j ≤ length t = omega (arith, f.room, z) in
    record {
      size = f.size;
      room = omega (arith, f.room, z);
      front = take-append-le j t (drop k o) l ∙ f.front;
      behind = drop-append-drop k o t k (omega arith) m;
      same = length-append t (drop k o) ∙ omega (arith, length-drop k o);
    }
