-- The ends of recorded applies.
use Rattle.std.specs.Prelude.{◌≡◌, ℕ, ◌<◌, ◌==◌, false, Option, Some, None}
use Rattle.typed_tree.specs.declared.statement.VertexFilter.{VertexFilter}
use Rattle.typed_tree.specs.declared.statement.VertexFilter.TheVariants as named
use Rattle.kernels.specs.declared.endpoint_filter.EndpointFilter.{EndpointFilter}
use Rattle.kernels.specs.declared.endpoint_filter.EndpointFilter.TheVariants as end
use Rattle.vertex_sets.specs.VertexSet.{VertexSubset}
use Rattle.plans.specs.Operation.{kernel_at}
use Rattle.plans.specs.declared.functions.FunctionKernels.{FunctionKernels}
use Rattle.run_state.specs.View.{members_in}

-- the set that is kept of an end has its members, if it is a set
abbrev pub IsKeptSet : Option EndpointFilter → Option VertexSubset → Type 0
IsKeptSet (Some (end.Members set)) kept = members_in kept ≡ set.now.members
IsKeptSet end kept = Unit {0}

-- an end is the one that a plan names: all vertices, the members of the kept set, or the filter at an index
abbrev pub IsRecordedEnd : FunctionKernels → Option VertexFilter → Option VertexSubset → Option EndpointFilter → Type 0
IsRecordedEnd f None kept None = Unit {0}
IsRecordedEnd f (Some (named.Members slot)) kept (Some (end.Members set)) = set.now.members ≡ members_in kept
IsRecordedEnd f (Some (named.Function index)) kept (Some (end.Filter kernel)) = kernel.now ≡ kernel_at f.filter index
IsRecordedEnd f a kept b = ⊥

-- two ends are of one kind, and if they are filters the same
abbrev pub AreOfOneKind : Option EndpointFilter → Option EndpointFilter → Type 0
AreOfOneKind None None = Unit {0}
AreOfOneKind (Some (end.Members a)) (Some (end.Members b)) = Unit {0}
AreOfOneKind (Some (end.Filter a)) (Some (end.Filter b)) = a.now ≡ b.now
AreOfOneKind a b = ⊥

-- v is not the lesser of two numbers
abbrev pub IsApart : (one other v : ℕ) → Type 0
IsApart one other v = (one < other → (one == v) ≡ false) × (other < one → (other == v) ≡ false)
