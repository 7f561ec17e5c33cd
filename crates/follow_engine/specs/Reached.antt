-- The destinations whose entries an apply may change otherwise than the former one did.
use Rattle.std.specs.Prelude.{ℕ, ◌==◌, Bool, true, ◌||◌, ◌&&◌, Option, Some, None, List}
use Rattle.std.specs.List.{list_any}
use Rattle.weighted_edges.specs.Edge.{Edge}
use Rattle.kernels.specs.EdgeApply.{is_member}
use Rattle.kernels.specs.declared.endpoint_filter.EndpointFilter.{EndpointFilter}
use Rattle.kernels.specs.declared.endpoint_filter.EndpointFilter.TheVariants as end
use Rattle.edge_apply.specs.declared.apply.Apply.{Apply}
use Rattle.follow_engine.specs.declared.differences.Differences.{Differences}

-- whether an end may let a vertex through, whatever a filter says
abbrev pub may_pass : Option EndpointFilter → ℕ → Bool
may_pass None v = true
may_pass (Some (end.Members set)) v = is_member v set.now.members
may_pass (Some (end.Filter kernel)) v = true

-- whether there is an edge from u to v
abbrev pub leads : List Edge → (u v : ℕ) → Bool
leads edges u v = list_any (λ e. (e.0 == u) && (e.1 == v)) edges

-- the destination of a named edge whose source one of the ends may let through
abbrev pub is_edge_reached : (now was : Option EndpointFilter) → List (ℕ × ℕ) → ℕ → Bool
is_edge_reached now was edges v = list_any (λ p. (may_pass now p.0 || may_pass was p.0) && (p.1 == v)) edges

-- a vertex to which an edge leads from one of these sources that an end may let through
abbrev pub is_row_reached : List Edge → Option EndpointFilter → (sources : List ℕ) → ℕ → Bool
is_row_reached edges end sources v = list_any (λ u. may_pass end u && leads edges u v) sources

-- the vertices that are named, the destinations of the named edges, and those of the edges from named sources and from named
-- vertices that may be sources now
abbrev pub is_reached : (now was : Apply) → Differences → ℕ → Bool
is_reached now was d v =
    (((is_member v d.entries.now || is_member v d.destinations.now)
    || is_edge_reached now.from was.from d.edges.now v)
    || is_row_reached now.flat.now.edges None d.sources.now v)
    || is_row_reached now.flat.now.edges now.from d.entries.now v
