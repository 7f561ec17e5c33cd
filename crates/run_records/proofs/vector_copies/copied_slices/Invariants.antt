use Rattle.std.proofs.Common.{◌≡◌, take}
use Rattle.run_records.proofs.vector_copies.copied_slices.Given as goal

-- the first vectors are copied
abbrev pub invariant-vectors : goal.invariant-vectors
invariant-vectors l = l.arrays.items ≡ take l.vector l.vectors.vectors
