-- Edge applies of a plan as a whole: their changes, in the words of the meaning.
use Rattle.std.specs.Prelude.{◌≡◌, ℕ, ◌<◌, ℤ, List, length, Option, Some, None, slice_get}
use Rattle.std.specs.Option.{option_copied, option_map}
use Rattle.typed_tree.specs.declared.statement.VertexFilter.{VertexFilter}
use Rattle.typed_tree.specs.declared.statement.VertexFilter.TheVariants as named
use Rattle.typed_tree.specs.ProgramTree.{ProgramTree}
use Rattle.algorithm_meaning.specs.EdgeApply.{after_edge_apply, passes}
use Rattle.algorithm_meaning.specs.State.{GraphValue, StateValue}
use Rattle.algorithm_meaning.specs.Value.{entry}
use Rattle.vectors.specs.declared.changes.VectorChanges.{VectorChanges}
use Rattle.vectors.specs.Changes.{with_all_changes}
use Rattle.kernels.specs.declared.endpoint_filter.EndpointFilter.{EndpointFilter}
use Rattle.kernels.specs.declared.endpoint_filter.EndpointFilter.TheVariants as end
use Rattle.plans.specs.Operation.{AreFunctionKernels, kernel_at}
use Rattle.plans.specs.Reducing.{AreReduced, indices_of, steps_at}
use Rattle.edge_fold.specs.Changed.{changed, changes_of}
use Rattle.edge_fold.specs.Ends.{IsEndTest}
use Rattle.edge_fold.specs.Folded.{AreKernels}
use Rattle.edge_apply.specs.declared.apply.Apply.{Apply}
use Rattle.run_state.specs.declared.run_view.RunView.{RunView}
use Rattle.run_state.specs.View.{HasEntryForEach, HasSets, IsViewOf, members_in}
use Rattle.runner.specs.declared.edge_maps.EdgeMap.{EdgeMap}

-- the changes make the vectors before into those after, and are, for each vector, the vertices whose entry differs, with
-- the entries after
pub record AreChangesTo (vertices : ℕ) (before after : List (List ℤ)) (cs : List VectorChanges) : Type 0 where
  pub written : with_all_changes cs before ≡ after
  pub differing : (x : ℕ) → x < length before → changes_of x cs ≡ changed vertices (entry before x) (entry after x)

-- the changes are those of an edge apply, in whatever program, state and graph the run shows, if in every state the functions
-- give each vector numbers by one reduction
abbrev pub AreChangesOfApply : RunView → EdgeMap → List VectorChanges → Type 0
AreChangesOfApply run asked cs = (p : ProgramTree) (m : StateValue) (g : GraphValue) → IsViewOf run p m g → HasEntryForEach g.vertices m.vectors
    → ((k : StateValue) → AreReduced (steps_at p.edge_functions (indices_of asked.first asked.second)) k)
    → AreChangesTo g.vertices m.vectors (after_edge_apply p.filters p.edge_functions g asked.ends (indices_of asked.first asked.second) m) cs

-- an apply of the engines has the functions and the ends of an edge apply, whatever program and state the run shows
abbrev pub HasFunctionsAndEnds : RunView → EdgeMap → Apply → Type 0
HasFunctionsAndEnds run asked apply = (p : ProgramTree) (m : StateValue) → AreFunctionKernels run.functions.now p → HasSets run m
    → AreKernels apply.first.now apply.second (steps_at p.edge_functions (indices_of asked.first asked.second))
    × IsEndTest apply.from m (passes p.filters m asked.ends.from) × IsEndTest apply.to m (passes p.filters m asked.ends.to)

-- an end of an apply is the one that a plan names: all vertices, the set at an index, or the filter at an index
abbrev pub IsNamedEnd : RunView → Option VertexFilter → Option EndpointFilter → Type 0
IsNamedEnd run None None = Unit {0}
IsNamedEnd run (Some (named.Members slot)) (Some (end.Members set)) = set.now.members ≡ members_in (slice_get run.sets.now slot.index)
IsNamedEnd run (Some (named.Function index)) (Some (end.Filter kernel)) = kernel.now ≡ kernel_at run.functions.now.filter index
IsNamedEnd run a b = ⊥

-- an apply of the engines is an edge apply of a run
pub record IsApplyOfRun (run : RunView) (asked : EdgeMap) (apply : Apply) : Type 0 where
  pub graph : apply.flat.now ≡ run.graph.now
  pub vectors : apply.vectors.now ≡ run.vectors.now
  pub sizes : apply.sizes.now ≡ run.sizes.now
  pub first : apply.first.now ≡ kernel_at run.functions.now.edge asked.first
  pub second : option_copied apply.second ≡ option_map (kernel_at run.functions.now.edge) asked.second
  pub from : IsNamedEnd run asked.ends.from apply.from
  pub to : IsNamedEnd run asked.ends.to apply.to
  pub parts : HasFunctionsAndEnds run asked apply
