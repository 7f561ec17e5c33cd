use Rattle.std.proofs.Common.{◌≡◌, drop}
use Rattle.edge_fold.specs.Changed.{changes_of}
use Rattle.follow_engine.proofs.vector_splices.changes_in.Given as goal

-- the vector is not among those that have come
abbrev pub invariant-vectors : goal.invariant-vectors
invariant-vectors l = changes_of l.vector (drop l.of_vector-index l.changes.vectors.items) ≡ changes_of l.vector l.changes.vectors.items
