-- Changes of an apply whose functions, in every state, give each vector numbers by one reduction.
use Rattle.std.specs.Prelude.{◌≡◌, ℕ, ◌≤◌, Bool, List, [], length, slice_index_or}
use Rattle.apply_options.specs.declared.reduction.Reduction.{Reduction}
use Rattle.kernels.specs.FunctionStatementTree.{FunctionStatementsTree}
use Rattle.kernels.specs.EdgeApply.{after_edges}
use Rattle.algorithm_meaning.specs.EdgeApply.{IsGivenBy}
use Rattle.kernels.specs.Registers.{HasSizes}
use Rattle.kernels.specs.State.{StateValue}
use Rattle.kernels.specs.Value.{entry}
use Rattle.vectors.specs.declared.changes.VectorChanges.{VectorChanges}
use Rattle.edge_fold.specs.Between.{edges_between}
use Rattle.edge_fold.specs.Changed.{changed, changes_of}
use Rattle.edge_fold.specs.Ends.{IsEndTest}
use Rattle.edge_fold.specs.Folded.{AreKernels}
use Rattle.edge_apply.specs.declared.apply.Apply.{Apply}

-- in every state there is a reduction by which alone the functions give the vector numbers
abbrev pub IsReducedAlways : (vector : ℕ) → List FunctionStatementsTree → Type 0
IsReducedAlways x steps = (k : StateValue) → (r : Reduction) × IsGivenBy r x steps k.sets k.vectors

-- the changes are those of the apply (`AreChangesOf`), for each vector to which the functions give numbers by one reduction in
-- every state, which may be another one in each: so they may be those of an apply over other vectors
abbrev pub AreChangesReduced : Apply → List VectorChanges → Type 0
AreChangesReduced a cs = (m : StateValue) (steps : List FunctionStatementsTree) (from to : ℕ → Bool) → a.vectors.now.vectors ≡ m.vectors
    → HasSizes a.sizes.now m
    → AreKernels a.first.now a.second steps → IsEndTest a.from m from → IsEndTest a.to m to
    → (x : ℕ) → IsReducedAlways x steps → a.flat.now.vertices ≤ length (slice_index_or m.vectors x [])
    → changes_of x cs ≡ changed a.flat.now.vertices (entry m.vectors x)
    (entry (after_edges steps m.sets m.vectors (edges_between from to a.flat.now.edges) m.vectors) x)
