-- How many of a run's workers do an edge apply.
use Rattle.std.specs.Prelude.{[], ℕ, ◌+◌, List, ◌∷◌, length, Option, Some, None, nat_lt, if◌then◌else◌, ◌/◌, min, Bool, ◌≡◌}
use Rattle.apply_options.specs.declared.apply_schedule.Parallelization.{Parallelization}
use Rattle.apply_options.specs.declared.apply_schedule.Parallelization.TheVariants.{Serial, StaticVertex, DynamicVertex, EdgeAwareDynamicVertex}
use Rattle.weighted_edges.specs.Edge.{Edge}
use Rattle.flat_snapshot.specs.Neighbours.{sources_of}
use Rattle.kernels.specs.declared.endpoint_filter.EndpointFilter.{EndpointFilter}
use Rattle.kernels.specs.declared.endpoint_filter.EndpointFilter.TheVariants as end
use Rattle.crew.specs.Outcome.{edges_of_a_worker}
use Rattle.edge_apply.specs.declared.apply.Apply.{Apply}
use Rattle.push_engine.specs.Work.{work_from_end}
use Rattle.runner.specs.declared.direction.Traversal.{Traversal}
use Rattle.runner.specs.declared.direction.Traversal.TheVariants as way

-- the work of a pull: one for each vertex, and one for each edge to it
abbrev pub work_into : (edges : List Edge) → (destinations : List ℕ) → ℕ
work_into edges [] = 0
work_into edges (v ∷ vs) = 1 + length (sources_of v edges) + work_into edges vs

-- that into an end: into the members of a set, and else all edges
abbrev pub work_into_end : (edges : List Edge) → (to : Option EndpointFilter) → ℕ
work_into_end edges None = length edges
work_into_end edges (Some (end.Members set)) = work_into edges set.now.members
work_into_end edges (Some (end.Filter filter)) = length edges

-- that of an apply, gone over this way
abbrev pub work_of : Traversal → Apply → ℕ
work_of way.Push a = work_from_end a.flat.now.edges a.from
work_of way.Pull a = work_into_end a.flat.now.edges a.to

-- two workers or more, or none
abbrev pub several : ℕ → Option ℕ
several n = if nat_lt 1 n then Some n else None

-- of n workers those that an apply over so many edges is worth, or none if the caller is to do it as a whole
abbrev pub worth : Parallelization → (workers edges : ℕ) → Option ℕ
worth Serial workers edges = None
worth StaticVertex workers edges = several (min workers (edges / edges_of_a_worker))
worth DynamicVertex workers edges = several (min workers (edges / edges_of_a_worker))
worth EdgeAwareDynamicVertex workers edges = several (min workers (edges / edges_of_a_worker))

-- all of n workers do an apply that somebody watches, and else those that it is worth
abbrev pub employed_of : (is_watched : Bool) → Parallelization → (workers edges : ℕ) → Option ℕ
employed_of is_watched p workers edges = if is_watched then Some workers else worth p workers edges

-- so many of n workers do an apply, watched or not
abbrev pub AreEmployed : Parallelization → (workers edges : ℕ) → Option ℕ → Type 0
AreEmployed p workers edges employed = (is_watched : Bool) × (employed ≡ employed_of is_watched p workers edges)
