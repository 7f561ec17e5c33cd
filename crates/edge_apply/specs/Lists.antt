-- Lists of vertices, and the sets of the ends of an apply.
use Rattle.std.specs.Prelude.{◌≡◌, ℕ, Option, Some, None}
use Rattle.kernels.specs.declared.endpoint_filter.EndpointFilter.{EndpointFilter}
use Rattle.kernels.specs.declared.endpoint_filter.EndpointFilter.TheVariants as end

-- a set of an end is one of as many vertices
abbrev pub IsEndFor : ℕ → Option EndpointFilter → Type 0
IsEndFor n None = Unit {0}
IsEndFor n (Some (end.Members set)) = set.now.vertices ≡ n
IsEndFor n (Some (end.Filter kernel)) = Unit {0}
