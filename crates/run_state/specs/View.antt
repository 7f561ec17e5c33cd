-- The view of a run that an edge apply is lent, in the words of the meaning.
use Rattle.std.specs.Prelude.{◌≡◌, ℕ, ◌<◌, ◌≤◌, ℤ, List, [], length, slice_get, slice_index_or, Option, Some, None}
use Rattle.typed_tree.specs.ProgramTree.{ProgramTree}
use Rattle.algorithm_meaning.specs.State.{GraphValue, StateValue}
use Rattle.algorithm_meaning.specs.Value.{members_of}
use Rattle.plans.specs.Operation.{AreFunctionKernels}
use Rattle.kernels.specs.Registers.{HasSizes}
use Rattle.vertex_sets.specs.VertexSet.{VertexSubset}
use Rattle.run_state.specs.declared.run_view.RunView.{RunView}

-- the members of a vertex set, none where there is no set
abbrev pub members_in : Option VertexSubset → List ℕ
members_in None = []
members_in (Some set) = set.members

-- at each index there are the members of a state's set
abbrev pub HasSets : RunView → StateValue → Type 0
HasSets run m = (index : ℕ) → members_in (slice_get run.sets.now index) ≡ members_of (slice_get m.sets index)

-- each vector has an entry for each of n vertices
abbrev pub HasEntryForEach : (vertices : ℕ) → List (List ℤ) → Type 0
HasEntryForEach vertices vectors = (x : ℕ) → x < length vectors → vertices ≤ length (slice_index_or vectors x [])

-- it has the functions of a program, the vertex sets and the vectors of a state, and a graph
pub record IsViewOf (run : RunView) (p : ProgramTree) (m : StateValue) (g : GraphValue) : Type 0 where
  pub functions : AreFunctionKernels run.functions.now p
  pub sets : HasSets run m
  pub sizes : HasSizes run.sizes.now m
  pub vectors : run.vectors.now.vectors ≡ m.vectors
  pub vertices : run.graph.now.vertices ≡ g.vertices
  pub edges : run.graph.now.edges ≡ g.edges
