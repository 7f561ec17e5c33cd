use Rattle.std.proofs.Common.{◌≡◌, ◌+◌, drop}
use Rattle.edge_fold.specs.inside.VectorAccumulators.{index_in}
use Rattle.edge_fold.proofs.vector_accumulators.find.Given as goal

-- no slot that has come is of the vector
abbrev pub invariant-slots : goal.invariant-slots
invariant-slots l = record {
  count : l.position ≡ l.slot-index;
  left : l.position + index_in l.vector (drop l.position l.slots) ≡ index_in l.vector l.slots;
}
