use Rattle.std.proofs.Common.{◌≡◌, ◌++◌, map, drop}
use Rattle.algorithm_meaning.specs.Meaning.{full_set}
use Rattle.plain_run.specs.inside.Seen.{graph_of}
use Rattle.plain_run.proofs.initial_state.open_sets.Given as goal

-- what is opened, and what is still to be, are all
abbrev pub invariant-sets : goal.invariant-sets
invariant-sets l =
    l.opened.items ++ map (full_set (graph_of l.graph)) (drop l.name-index l.names)
    ≡ map (full_set (graph_of l.graph)) l.names
