use Rattle.std.proofs.Common.{◌≡◌, ◌++◌, map, drop}
use Rattle.algorithm_meaning.specs.Meaning.{initial_entries}
use Rattle.plain_run.specs.inside.Seen.{graph_of}
use Rattle.plain_run.proofs.initial_state.open_vectors.Given as goal

-- what is opened, and what is still to be, are all
abbrev pub invariant-vectors : goal.invariant-vectors
invariant-vectors l =
    l.opened.items ++ map (λ v. initial_entries (graph_of l.graph) v.beginning) (drop l.vector-index l.vectors)
    ≡ map (λ v. initial_entries (graph_of l.graph) v.beginning) l.vectors
