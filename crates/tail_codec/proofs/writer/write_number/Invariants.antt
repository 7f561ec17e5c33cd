use Rattle.std.proofs.Common.{◌≡◌, ℕ, ◌+◌, ◌≤◌, List, ◌++◌, take}
use Rattle.tail_codec.specs.Spelling.{SpellsNumber}
use Rattle.tail_codec.specs.inside.Writing.{Fits}
use Rattle.tail_codec.proofs.writer.write_number.Given as goal

abbrev pub invariant-loop-rest : goal.invariant-loop-rest
invariant-loop-rest l = record {
  room : (n : ℕ) → Fits l.fn.number n → (m : ℕ) × Fits l.rest m × (l.position + m ≤ l.fn.position + n);
  writes : (last : List ℕ) → SpellsNumber l.rest last → (bytes : List ℕ) × SpellsNumber l.fn.number bytes × (take l.position l.buffer ++ last ≡ take l.fn.position l.fn.buffer ++ bytes);
}

abbrev pub decreases-loop-rest : goal.decreases-loop-rest
decreases-loop-rest l = l.rest
