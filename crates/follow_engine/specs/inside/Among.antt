-- What a pull into chosen destinations changes, and the changes of all vectors on both sides.
use Rattle.std.specs.Prelude.{◌≡◌, ℕ, ◌≤◌, Bool, List, [], length, slice_index_or}
use Rattle.apply_options.specs.declared.reduction.Reduction.{Reduction}
use Rattle.kernels.specs.FunctionStatementTree.{FunctionStatementsTree}
use Rattle.kernels.specs.EdgeApply.{after_edges, is_member}
use Rattle.algorithm_meaning.specs.EdgeApply.{IsGivenBy}
use Rattle.kernels.specs.Registers.{HasSizes}
use Rattle.kernels.specs.State.{StateValue}
use Rattle.kernels.specs.Value.{entry}
use Rattle.vectors.specs.declared.changes.Changes.{Changes}
use Rattle.vectors.specs.declared.changes.VectorChanges.{VectorChanges}
use Rattle.edge_fold.specs.Between.{edges_between}
use Rattle.edge_fold.specs.Changed.{changed, changes_of, changes_or}
use Rattle.edge_fold.specs.Ends.{IsEndTest}
use Rattle.edge_fold.specs.Folded.{AreKernels}
use Rattle.edge_apply.specs.declared.apply.Apply.{Apply}
use Rattle.follow_engine.specs.Spliced.{spliced}

-- the changes of an apply to the edges from its first end to these destinations
abbrev pub ArePulledAmong : Apply → (destinations : List ℕ) → List VectorChanges → Type 0
ArePulledAmong a vs cs = (m : StateValue) (steps : List FunctionStatementsTree) (from : ℕ → Bool) → a.vectors.now.vectors ≡ m.vectors → HasSizes a.sizes.now m
    → AreKernels a.first.now a.second steps → IsEndTest a.from m from
    → (x : ℕ) (r : Reduction) → IsGivenBy r x steps m.sets m.vectors → a.flat.now.vertices ≤ length (slice_index_or m.vectors x [])
    → changes_of x cs ≡ changed a.flat.now.vertices (entry m.vectors x)
    (entry (after_edges steps m.sets m.vectors (edges_between from (λ v. is_member v vs) a.flat.now.edges) m.vectors) x)

-- the vector is not there, or it is there with what was found and recorded of it
abbrev pub HasSpliced : (test : ℕ → Bool) → (found recorded : Changes) → (vector : ℕ) → List VectorChanges → Type 0
HasSpliced test found recorded x vs =
    let whole = spliced test (changes_of x found.vectors.items) (changes_of x recorded.vectors.items) in changes_or x vs whole ≡ whole
