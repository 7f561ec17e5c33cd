use Rattle.std.proofs.Common.{◌≡◌, false, take}
use Rattle.std.specs.List.{list_any}
use Rattle.tree_batch.specs.Edge.{entry_misfits}
use Rattle.tree_batch.proofs.batch.Batch.misfits.Given as goal

-- none of the first entries misfits
abbrev pub invariant-loop-index : goal.invariant-loop-index
invariant-loop-index l = list_any (entry_misfits l.vertices l.after) (take l.index l.self) ≡ false
