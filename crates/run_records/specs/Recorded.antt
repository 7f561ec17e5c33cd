-- What a record says of the edge applies of a run.
use Rattle.std.specs.Prelude.{◌≡◌, ℕ, ◌≤◌, ℤ, Bool, true, Option, Some, None, List, [], ◌∷◌, length, slice_index_or}
use Rattle.std.specs.Option.{option_map}
use Rattle.typed_tree.specs.declared.statement.VertexFilter.{VertexFilter}
use Rattle.typed_tree.specs.declared.statement.VertexFilter.TheVariants as named
use Rattle.kernels.specs.FunctionStatementTree.{FunctionStatementsTree}
use Rattle.kernels.specs.EdgeApply.{after_edges, is_member}
use Rattle.kernels.specs.Kernels.{IsEdgeKernel}
use Rattle.kernels.specs.Registers.{HasSizes}
use Rattle.kernels.specs.State.{StateValue}
use Rattle.kernels.specs.Value.{entry}
use Rattle.kernels.specs.declared.kernel.EdgeKernel.{EdgeKernel}
use Rattle.vectors.specs.Changes.{with_all_changes}
use Rattle.vertex_sets.specs.VertexSet.{VertexSubset}
use Rattle.plans.specs.Operation.{kernel_at}
use Rattle.plans.specs.declared.functions.FunctionKernels.{FunctionKernels}
use Rattle.flat_snapshot.specs.Digraph.{Digraph}
use Rattle.edge_fold.specs.Between.{edges_between}
use Rattle.edge_fold.specs.Changed.{AreApart, changed, changes_of}
use Rattle.edge_fold.specs.Ends.{IsFilterTest}
use Rattle.run_state.specs.View.{members_in}
use Rattle.follow_engine.specs.Reduced.{IsReducedAlways}
use Rattle.run_records.specs.declared.apply_record.ApplyRecord.{ApplyRecord}

-- a kernel, and a second one if it is given, are those of these functions, in order
abbrev pub AreKernelsOf : EdgeKernel → Option EdgeKernel → List FunctionStatementsTree → Type 0
AreKernelsOf first None (a ∷ []) = IsEdgeKernel first a
AreKernelsOf first None _ = ⊥
AreKernelsOf first (Some second) (a ∷ b ∷ []) = IsEdgeKernel first a × IsEdgeKernel second b
AreKernelsOf first (Some second) _ = ⊥

-- the test is that of an end that a plan names, of which the set is given if it is one
abbrev pub IsNamedTest : FunctionKernels → Option VertexFilter → Option VertexSubset → StateValue → (ℕ → Bool) → Type 0
IsNamedTest f None set m test = (v : ℕ) → test v ≡ true
IsNamedTest f (Some (named.Members slot)) set m test = (v : ℕ) → test v ≡ is_member v (members_in set)
IsNamedTest f (Some (named.Function index)) set m test = IsFilterTest (kernel_at f.filter index) m test

-- for each vector to which the functions give numbers by one reduction in every state: the recorded changes are those of an
-- apply of the recorded functions between the recorded ends, on this graph and over these vectors
abbrev pub IsRecorded : FunctionKernels → Digraph → (vectors : List (List ℤ)) → ApplyRecord → Type 0
IsRecorded f g vectors a = (m : StateValue) (steps : List FunctionStatementsTree) (from to : ℕ → Bool) → vectors ≡ m.vectors → HasSizes a.sizes.items m
    → AreKernelsOf (kernel_at f.edge a.asked.first) (option_map (kernel_at f.edge) a.asked.second) steps
    → IsNamedTest f a.asked.ends.from a.sources m from → IsNamedTest f a.asked.ends.to a.destinations m to
    → (x : ℕ) → IsReducedAlways x steps → g.vertices ≤ length (slice_index_or m.vectors x [])
    → changes_of x a.changes.vectors.items ≡ changed g.vertices (entry m.vectors x)
    (entry (after_edges steps m.sets m.vectors (edges_between from to g.edges) m.vectors) x)

-- it is so of each apply of a record, each over the vectors that the one before has left; and its changes name a vector once
abbrev pub AreRecorded : FunctionKernels → Digraph → (vectors : List (List ℤ)) → List ApplyRecord → Type 0
AreRecorded f g vectors [] = Unit {0}
AreRecorded f g vectors (a ∷ more) =
    (AreApart a.changes.vectors.items × IsRecorded f g vectors a) × AreRecorded f g (with_all_changes a.changes.vectors.items vectors) more

-- the vectors after these applies
abbrev pub vectors_through : List ApplyRecord → (vectors : List (List ℤ)) → List (List ℤ)
vectors_through [] vectors = vectors
vectors_through (a ∷ more) vectors = vectors_through more (with_all_changes a.changes.vectors.items vectors)
