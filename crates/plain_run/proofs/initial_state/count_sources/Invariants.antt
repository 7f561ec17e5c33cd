use Rattle.std.proofs.Common.{◌≡◌, drop}
use Rattle.plain_run.specs.inside.Degrees.{counted}
use Rattle.plain_run.proofs.initial_state.count_sources.Given as goal

-- what is left to do from here comes to what was to be done
abbrev pub invariant-edges : goal.invariant-edges
invariant-edges l = counted (drop l.edge-index l.edges) l.degrees.items ≡ counted l.edges l.fn.degrees.items
