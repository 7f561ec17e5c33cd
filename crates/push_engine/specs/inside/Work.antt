-- Beside `Work`: definitions that no public contract cites.
use Rattle.std.specs.Prelude.{◌≡◌, ℕ, ◌≤◌, nat_lt, Bool, not, false, Option, Some, None}
use Rattle.flat_snapshot.specs.Digraph.{Digraph}
use Rattle.kernels.specs.declared.endpoint_filter.EndpointFilter.{EndpointFilter}
use Rattle.push_engine.specs.Work.{tests_first}

-- a count that may have stopped above a limit answers whether the whole is above each number up to the limit
abbrev pub AnswersUpTo : (limit count whole : ℕ) → Type 0
AnswersUpTo limit count whole = (k : ℕ) → k ≤ limit → nat_lt k count ≡ nat_lt k whole

-- whether destinations are tested once all edges have come: there is an end, and it is not tested first
abbrev pub tests_last : Digraph → (from to : Option EndpointFilter) → Bool
tests_last d from None = false
tests_last d from (Some to) = not (tests_first d from to)
