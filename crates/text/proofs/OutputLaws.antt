-- What was added to an output.
use Rattle.std.proofs.Common.{◌≡◌, ℕ, List, [], ◌++◌, refl, ◌∙◌, arith, length-append, append_assoc}
use Rattle.reading.specs.Slices.{Wrote}
use Rattle.text.specs.Output.{Adds}
use Rattle.text.specs.declared.output.Output.{Output}

-- To an output of which nothing was written.
pub adds_first : {o o' : Output} {v : List ℕ} → Adds o v o' → o.len ≡ 0 → Wrote o.cells.now v o'.len o'.cells.now
adds_first {o} a e = a.further.so o.cells.now [] (record { size = e; left = refl })

pub adds_more : {o o' o'' : Output} {v w : List ℕ} → Adds o v o' → Adds o' w o'' → Adds o (v ++ w) o''
adds_more {v = v} {w} a b = record {
  further = record {
    so = λ o₀ u g. rw (← append_assoc) (b.further.so o₀ (u ++ v) (a.further.so o₀ u g));
    size = omega (arith, a.further.size, b.further.size, length-append v w);
  };
  same = b.same ∙ a.same;
  same_reference = b.same_reference ∙ a.same_reference;
}
