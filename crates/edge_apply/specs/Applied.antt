-- Changes of an apply of edge functions, in the words of the meaning.
use Rattle.std.specs.Prelude.{◌≡◌, ℕ, ◌≤◌, Bool, List, [], length, slice_index_or}
use Rattle.weighted_edges.specs.Edge.{Edge}
use Rattle.apply_options.specs.declared.reduction.Reduction.{Reduction}
use Rattle.kernels.specs.FunctionStatementTree.{FunctionStatementsTree}
use Rattle.kernels.specs.EdgeApply.{IsGivenBy, after_edges}
use Rattle.kernels.specs.State.{StateValue}
use Rattle.kernels.specs.Value.{entry}
use Rattle.kernels.specs.Registers.{HasSizes}
use Rattle.vectors.specs.declared.changes.VectorChanges.{VectorChanges}
use Rattle.edge_fold.specs.Between.{edges_between}
use Rattle.edge_fold.specs.Changed.{changed, changes_of}
use Rattle.edge_fold.specs.Ends.{IsEndTest}
use Rattle.edge_fold.specs.Folded.{AreKernels}
use Rattle.edge_apply.specs.declared.apply.Apply.{Apply}

-- for each vector that has an entry for each vertex and to which the functions give by one reduction, the vertices whose
-- entry an apply to these edges of a graph of n vertices changes, ascending, with the entries after it
abbrev pub AreChangesOn : (n : ℕ) → (edges : List Edge) → StateValue → List FunctionStatementsTree → List VectorChanges → Type 0
AreChangesOn n edges m steps cs = (x : ℕ) (r : Reduction) → IsGivenBy r x steps m.sets m.vectors → n ≤ length (slice_index_or m.vectors x [])
    → changes_of x cs ≡ changed n (entry m.vectors x) (entry (after_edges steps m.sets m.vectors edges m.vectors) x)

-- the changes are those of an apply to the edges between its ends, over the vectors and the sizes of the sets of a state
abbrev pub AreChangesOf : Apply → List VectorChanges → Type 0
AreChangesOf a cs = (m : StateValue) (steps : List FunctionStatementsTree) (from to : ℕ → Bool) → a.vectors.now.vectors ≡ m.vectors → HasSizes a.sizes.now m
    → AreKernels a.first.now a.second steps → IsEndTest a.from m from → IsEndTest a.to m to
    → AreChangesOn a.flat.now.vertices (edges_between from to a.flat.now.edges) m steps cs
