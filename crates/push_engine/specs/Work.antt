-- The work of a push: vertices gone over, and the edges from them.
use Rattle.std.specs.Prelude.{[], ℕ, ◌+◌, ◌/◌, ◌&&◌, ◌||◌, Bool, not, true, false, nat_lt, List, ◌∷◌, length, Option, Some, None}
use Rattle.weighted_edges.specs.Edge.{Edge}
use Rattle.flat_snapshot.specs.Digraph.{Digraph}
use Rattle.flat_snapshot.specs.Neighbours.{destinations_of}
use Rattle.vertex_sets.specs.declared.form.Form.{Form}
use Rattle.vertex_sets.specs.declared.form.Form.TheVariants as form
use Rattle.kernels.specs.declared.endpoint_filter.EndpointFilter.{EndpointFilter}
use Rattle.kernels.specs.declared.endpoint_filter.EndpointFilter.TheVariants as end

-- one for each vertex, and one for each edge from it
abbrev pub work_from : (edges : List Edge) → (sources : List ℕ) → ℕ
work_from edges [] = 0
work_from edges (u ∷ us) = 1 + length (destinations_of u edges) + work_from edges us

-- that from an end: from the members of a set, and else all edges
abbrev pub work_from_end : (edges : List Edge) → (from : Option EndpointFilter) → ℕ
work_from_end edges None = length edges
work_from_end edges (Some (end.Members set)) = work_from edges set.now.members
work_from_end edges (Some (end.Filter filter)) = length edges

abbrev pub is_bits : Form → Bool
is_bits form.List = false
is_bits form.Flags = false
is_bits form.Bits = true

-- whether an end is a set that is kept as bits
abbrev pub is_kept_as_bits : EndpointFilter → Bool
is_kept_as_bits (end.Members set) = is_bits set.now.form
is_kept_as_bits (end.Filter filter) = false

-- whether destinations are tested as edges come: those that are kept as bits, and all if more than one edge for each 8 vertices comes
abbrev pub tests_first : Digraph → (from : Option EndpointFilter) → (to : EndpointFilter) → Bool
tests_first d from to = is_kept_as_bits to || nat_lt (d.vertices / 8) (work_from_end d.edges from)

-- whether bits are made for the destinations: they are tested as edges come, and are not kept as bits
abbrev pub makes_bits : Digraph → (from to : Option EndpointFilter) → Bool
makes_bits d from None = false
makes_bits d from (Some to) = not (is_kept_as_bits to) && tests_first d from to
