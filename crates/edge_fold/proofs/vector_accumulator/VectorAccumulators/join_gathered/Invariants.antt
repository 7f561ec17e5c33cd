use Rattle.std.proofs.Common.{ℕ, take}
use Rattle.apply_options.specs.declared.reduction.Reduction.{Reduction}
use Rattle.edge_fold.specs.Gathered.{IsGatheredBy, gathered_for}
use Rattle.edge_fold.specs.inside.VectorAccumulators.{HaveJoined}
use Rattle.edge_fold.proofs.vector_accumulator.VectorAccumulators.join_gathered.Given as goal

-- what was gathered for the first vectors is joined
abbrev pub invariant-vectors : goal.invariant-vectors
invariant-vectors l = (x : ℕ) (r : Reduction) → IsGatheredBy r x l.gathered → HaveJoined l.context x r l.fn.self l.self (gathered_for x (take l.of_vector-index l.gathered))
