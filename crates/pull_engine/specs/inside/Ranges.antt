-- Beside `Ranges`: definitions that no public contract cites.
use Rattle.std.specs.Prelude.{[], ℕ, ℤ, List, ◌∷◌, ◌++◌, Bool, if◌then◌else◌, Option}
use Rattle.std.specs.Borrow.{Bor}
use Rattle.apply_options.specs.declared.reduction.Reduction.{Reduction}
use Rattle.weighted_edges.specs.Edge.{Edge}
use Rattle.flat_snapshot.specs.Neighbours.{sources_of}
use Rattle.vectors.specs.declared.changes.EntryChange.{EntryChange}
use Rattle.kernels.specs.FunctionStatementTree.{FunctionStatementsTree}
use Rattle.kernels.specs.State.{StateValue}
use Rattle.kernels.specs.Registers.{HasSizes}
use Rattle.kernels.specs.Shapes.{HasShape}
use Rattle.kernels.specs.declared.kernel.EdgeKernel.{EdgeKernel}
use Rattle.kernels.specs.declared.shape.Shape.{Shape}
use Rattle.edge_fold.specs.Changed.{change_at}
use Rattle.edge_fold.specs.EntryNumbers.{reduced_over}
use Rattle.edge_fold.specs.Folded.{AreKernels}
use Rattle.edge_fold.specs.Contributions.{all_given}
use Rattle.pull_engine.specs.Columns.{passing}

-- those of the vertices whose entry differs, in their order
abbrev pub changes_at : (old new : ℕ → ℤ) → List ℕ → List EntryChange
changes_at old new [] = []
changes_at old new (v ∷ vs) = change_at old new v ++ changes_at old new vs

-- the entry at a vertex, reduced with the numbers of those of its sources that pass, by the sources and the weights
abbrev pub pulled : Reduction → (number : ℕ → ℤ → ℤ) → (old : ℕ → ℤ) → (from : ℕ → Bool) → List Edge → ℕ → ℤ
pulled r number old from es v = reduced_over r number (old v) (passing from (sources_of v es))

-- the entry that is pulled if the vertex passes, and else the old one
abbrev pub pulled_to : Reduction → (number : ℕ → ℤ → ℤ) → (old : ℕ → ℤ) → (from to : ℕ → Bool) → List Edge → ℕ → ℤ
pulled_to r number old from to es v = if to v then pulled r number old from es v else old v

-- what the functions give on every edge is what one of this shape gives
abbrev pub IsShapeOfApply : Shape → EdgeKernel → Option (Bor EdgeKernel) → Type 0
IsShapeOfApply t first second = (m : StateValue) (sizes : List ℤ) (steps : List FunctionStatementsTree) → HasSizes sizes m → AreKernels first second steps
    → (edge : Edge) → HasShape t m edge (all_given m steps edge)
