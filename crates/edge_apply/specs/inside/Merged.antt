-- Merges of the pieces of an apply, range by range.
use Rattle.std.specs.Prelude.{[], ℕ, List, ◌∷◌, ◌++◌, ◌≡◌, ◌-◌, ◌≤◌, length, slice_index_or}
use Rattle.std.specs.List.{flat_map}
use Rattle.apply_options.specs.declared.reduction.Reduction.{Reduction}
use Rattle.weighted_edges.specs.Edge.{Edge}
use Rattle.vectors.specs.declared.changes.Changes.{Changes}
use Rattle.vectors.specs.declared.changes.EntryChange.{EntryChange}
use Rattle.kernels.specs.FunctionStatementTree.{FunctionStatementsTree}
use Rattle.kernels.specs.EdgeApply.{IsGivenBy, after_edges}
use Rattle.kernels.specs.State.{StateValue}
use Rattle.kernels.specs.Value.{entry}
use Rattle.kernels.specs.Registers.{HasSizes}
use Rattle.crew.specs.declared.piece_results.Found.{Found}
use Rattle.crew.specs.Partition.{end_of}
use Rattle.crew.specs.Pieces.{pieces_of}
use Rattle.edge_fold.specs.Changed.{changes_of, changed_from}
use Rattle.edge_fold.specs.Folded.{AreKernels}
use Rattle.edge_apply.specs.Pieces.{EachAscending, EachGathered}
use Rattle.edge_apply.specs.declared.range_merge.RangeMerge.{RangeMerge}

-- the changes in a vector of all parts, one part after the other
abbrev pub changes_in_parts : (vector : ℕ) → List (Found Changes) → List EntryChange
changes_in_parts x [] = []
changes_in_parts x (f ∷ fs) = changes_of x f.out.vectors.items ++ changes_in_parts x fs

-- the changes of an apply to the edges of all pieces, at the vertices of a range
abbrev pub IsMerged : RangeMerge → (range : ℕ) → Changes → Type 0
IsMerged w k c = (m : StateValue) (steps : List FunctionStatementsTree) (edges_of : ℕ → List Edge) → w.apply.vectors.now.vectors ≡ m.vectors
    → HasSizes w.apply.sizes.now m
    → AreKernels w.apply.first.now w.apply.second steps → EachAscending w.found.now → EachGathered w.apply.flat.now.vertices m steps edges_of w.found.now
    → (x : ℕ) (r : Reduction) → IsGivenBy r x steps m.sets m.vectors → w.apply.flat.now.vertices ≤ length (slice_index_or m.vectors x [])
    → changes_of x c.vectors.items
    ≡ changed_from (entry m.vectors x) (entry (after_edges steps m.sets m.vectors (flat_map edges_of (pieces_of w.found.now)) m.vectors) x)
    (end_of w.ranges (k - 1)) (end_of w.ranges k - end_of w.ranges (k - 1))
