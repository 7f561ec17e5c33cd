-- Folds of a scratch: the edges that it has folded, and the entries that it has of them.
use Rattle.std.specs.Prelude.{[], ◌≡◌, ◌||◌, ℕ, ◌<◌, ℤ, Bool, false, if◌then◌else◌, Option, Some, None, List, ◌∷◌, take}
use Rattle.std.specs.Borrow.{Bor}
use Rattle.apply_options.specs.declared.reduction.Reduction.{Reduction}
use Rattle.weighted_edges.specs.Edge.{Edge}
use Rattle.typed_tree.specs.FunctionStatementTree.{FunctionStatementsTree}
use Rattle.algorithm_meaning.specs.State.{StateValue}
use Rattle.kernels.specs.declared.kernel.EdgeKernel.{EdgeKernel}
use Rattle.kernels.specs.Registers.{HasSizes}
use Rattle.kernels.specs.Kernels.{IsEdgeKernel, IsWeightless}
use Rattle.edge_fold.specs.declared.apply_context.ApplyContext.{ApplyContext}
use Rattle.edge_fold.specs.declared.pairs.Pairs.{Pairs}
use Rattle.edge_fold.specs.declared.scratch.Scratch.{Scratch}
use Rattle.edge_fold.specs.Contributions.{IsReducedBy, all_given, given_on, pairs, reduced_at}
use Rattle.edge_fold.specs.FoldStarts.{combined_with_seed, first_entry}
use Rattle.edge_fold.specs.VectorAccumulators.{active, held_in_with, reduction_in}

-- the kernels are those of these functions, in order
abbrev pub AreKernels : EdgeKernel → Option (Bor EdgeKernel) → List FunctionStatementsTree → Type 0
AreKernels first None (a ∷ []) = IsEdgeKernel first a
AreKernels first None _ = ⊥
AreKernels first (Some second) (a ∷ b ∷ []) = IsEdgeKernel first a × IsEdgeKernel second.now b
AreKernels first (Some second) _ = ⊥

-- whether one of the kernels reads weights
abbrev pub are_weighted : EdgeKernel → Option (Bor EdgeKernel) → Bool
are_weighted first None = first.weighted
are_weighted first (Some second) = first.weighted || second.now.weighted

-- what each function gives on an edge is the same with any weight
abbrev pub AreWeightless : StateValue → List FunctionStatementsTree → Type 0
AreWeightless m [] = Unit {0}
AreWeightless m (steps ∷ more) = IsWeightless m steps × AreWeightless m more

-- the functions have these statements, and read the vectors and the sets of a state; where no weight counts, they read none
pub record IsContextOf (f : ApplyContext) (m : StateValue) (steps : List FunctionStatementsTree) : Type 0 where
  pub vectors : f.vectors.now.vectors ≡ m.vectors
  pub sizes : HasSizes f.sizes.now m
  pub kernels : AreKernels f.first.now f.second steps
  pub weightless : f.weighted ≡ false → AreWeightless m steps

-- the edges that wait; if no weight counts each has weight 1, whatever is in the column of weights
abbrev pub waiting : (weighted : Bool) → Pairs → List Edge
waiting weighted p = pairs (take p.count p.sources) (take p.count p.destinations) (if weighted then take p.count p.weights else [])

-- for a vector to which the functions give by one reduction: the new entries of the graph's vertices, reduced with what the
-- pairs that wait give, are the first ones reduced with what these edges give
pub record HasFoldedFor (f : ApplyContext) (m : StateValue) (steps : List FunctionStatementsTree) (edges : List Edge) (s : Scratch) (x : ℕ)
    (r : Reduction) : Type 0 where
  pub entries : (v : ℕ) (h : ℤ) → v < f.vertices
      → reduced_at r v (held_in_with (combined_with_seed f.start r) (active s.slots) x v (first_entry f x v h))
      (given_on x (all_given m steps) (waiting f.weighted s.pairs))
      ≡ reduced_at r v (first_entry f x v h) (given_on x (all_given m steps) edges)
  pub reduction : reduction_in (active s.slots) x r ≡ r

-- so it is for each such vector
abbrev pub HasFolded : ApplyContext → StateValue → List FunctionStatementsTree → List Edge → Scratch → Type 0
HasFolded f m steps edges s = (x : ℕ) (r : Reduction) → IsReducedBy r x m steps → HasFoldedFor f m steps edges s x r
