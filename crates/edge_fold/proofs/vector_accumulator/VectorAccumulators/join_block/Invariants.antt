use Rattle.std.proofs.Common.{ℕ, ◌<◌, length, take}
use Rattle.apply_options.specs.declared.reduction.Reduction.{Reduction}
use Rattle.kernels.specs.Columns.{registers_at}
use Rattle.kernels.specs.Meaning.{given_by}
use Rattle.edge_fold.specs.Contributions.{IsBy}
use Rattle.edge_fold.specs.inside.Contributions.{given_from}
use Rattle.edge_fold.specs.inside.VectorAccumulators.{HaveJoined}
use Rattle.edge_fold.proofs.vector_accumulator.VectorAccumulators.join_block.Given as goal

-- what the first contributions came to
abbrev pub invariant-contributions : goal.invariant-contributions
invariant-contributions l = (x : ℕ) (r : Reduction) → ((i : ℕ) → i < length l.destinations → IsBy r x (given_by l.kernel.gives.items (registers_at l.block.numbers.items i)))
    → HaveJoined l.context x r l.fn.self l.self (given_from x (λ i. given_by (take l.index l.kernel.gives.items) (registers_at l.block.numbers.items i)) 0 l.destinations)
