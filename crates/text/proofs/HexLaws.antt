-- A hexadecimal digit's value.
use Rattle.std.proofs.Common.{◌≡◌, ℕ, ◌-◌, ◌+◌, ◌<◌, ◌≤◌, true, arith}
use Rattle.std.specs.Prelude.{leb, Option, Some}
use borrow.Author.Tests.{leb-true}
use Rattle.reading.proofs.Test.{both, by_test}
use Rattle.text.specs.Ranges.{to, within}
use Rattle.text.specs.Hex.{hex_value}

abbrev Small : ℕ → Option ℕ → Type 0
Small d v = v ≡ Some d → d < 16

small : (c d a b z : ℕ) → z < a + 16 → within (to b z) c ≡ true → Small d (Some (c - a))
small c d a b z l h e = let g : c ≤ z = leb-true c z (both (leb b c) (leb c z) h).1 in let n : c - a ≡ d = cc in omega arith

pub hex_small : (c d : ℕ) → Small d (hex_value c)
hex_small c d = by_test (Small d) (within (to 0x30 0x39) c) (small c d 0x30 0x30 0x39 (omega arith))
    (λ _. by_test (Small d) (within (to 0x41 0x46) c) (small c d 0x37 0x41 0x46 (omega arith))
    (λ _. by_test (Small d) (within (to 0x61 0x66) c) (small c d 0x57 0x61 0x66 (omega arith)) (λ _ e. cc)))
