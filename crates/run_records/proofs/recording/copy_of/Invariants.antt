use Rattle.std.proofs.Common.{take}
use Rattle.run_records.specs.inside.Copies.{AreSameChanges}
use Rattle.run_records.proofs.recording.copy_of.Given as goal

-- the changes of the first vectors are copied
abbrev pub invariant-vectors : goal.invariant-vectors
invariant-vectors l = AreSameChanges l.vectors.items (take l.of_vector-index l.changes.vectors.items)
