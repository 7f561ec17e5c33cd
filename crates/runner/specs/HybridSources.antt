-- The sources of a hybrid, in a set, and which way an apply goes over the edges.
use Rattle.std.specs.Prelude.{◌≡◌, ℕ, ◌<◌, ◌/◌, ◌&&◌, if◌then◌else◌, Bool, true, false, List, Option, Some, None, length, nat_lt}
use Rattle.weighted_edges.specs.Edge.{Edge}
use Rattle.apply_options.specs.declared.apply_schedule.Direction.{Direction}
use Rattle.apply_options.specs.declared.apply_schedule.Direction.TheVariants as direction
use Rattle.algorithm_meaning.specs.EdgeApply.{is_member}
use Rattle.algorithm_meaning.specs.State.{StateValue}
use Rattle.kernels.specs.Registers.{HasSizes}
use Rattle.kernels.specs.declared.endpoint_filter.EndpointFilter.{EndpointFilter}
use Rattle.kernels.specs.declared.endpoint_filter.EndpointFilter.TheVariants as end
use Rattle.flat_snapshot.specs.Digraph.{IsDigraph}
use Rattle.vertex_sets.specs.VertexSet.{VertexSubset}
use Rattle.edge_fold.specs.Ends.{IsEndTest}
use Rattle.edge_apply.specs.declared.apply.Apply.{Apply}
use Rattle.push_engine.specs.Work.{work_from}
use Rattle.runner.specs.declared.direction.Traversal.{Traversal}
use Rattle.runner.specs.declared.direction.Traversal.TheVariants as way

-- the members of a set are the vertices of the graph that the first end of an apply lets through
pub record HasSources (a : Apply) (set : VertexSubset) : Type 0 where
  pub graph : IsDigraph a.flat.now
  pub members : (m : StateValue) (from : ℕ → Bool) → a.vectors.now.vectors ≡ m.vectors → HasSizes a.sizes.now m → IsEndTest a.from m from
      → (v : ℕ) → v < a.flat.now.vertices → is_member v set.members ≡ from v

-- whether a direction is the hybrid
abbrev pub is_hybrid : Direction → Bool
is_hybrid direction.SparsePush = false
is_hybrid direction.DensePush = false
is_hybrid direction.DensePull = false
is_hybrid direction.Hybrid = true

-- whether an end is a function of the user that lets vertices through
abbrev pub is_filtered : Option EndpointFilter → Bool
is_filtered None = false
is_filtered (Some (end.Members set)) = false
is_filtered (Some (end.Filter filter)) = true

-- the same where a set is given, which a hybrid with a filter is
abbrev pub AreSourcesOf : Apply → Option VertexSubset → Type 0
AreSourcesOf a None = (is_hybrid a.direction && is_filtered a.from) ≡ false
AreSourcesOf a (Some set) = HasSources a set

-- the hybrid goes into the destinations if all sources pass, and if those in a set and the edges from them are more than the
-- edges divided by 20, rounded down
abbrev pub hybrid_traversal : List Edge → Option EndpointFilter → Traversal
hybrid_traversal edges None = way.Pull
hybrid_traversal edges (Some (end.Members set)) = if nat_lt (length edges / 20) (work_from edges set.now.members) then way.Pull else way.Push
hybrid_traversal edges (Some (end.Filter filter)) = way.Pull

-- which way a direction goes
abbrev pub direction_traversal : Direction → List Edge → Option EndpointFilter → Traversal
direction_traversal direction.SparsePush edges from = way.Push
direction_traversal direction.DensePush edges from = way.Push
direction_traversal direction.DensePull edges from = way.Pull
direction_traversal direction.Hybrid edges from = hybrid_traversal edges from

-- which way an apply goes over the edges
abbrev pub traversal_of : Apply → Traversal
traversal_of a = direction_traversal a.direction a.flat.now.edges a.from
