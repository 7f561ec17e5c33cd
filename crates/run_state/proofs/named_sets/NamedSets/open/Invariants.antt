use Rattle.std.proofs.Common.{◌≡◌, map, take}
use Rattle.algorithm_meaning.specs.State.{GraphValue}
use Rattle.algorithm_meaning.specs.Meaning.{full_set}
use Rattle.run_state.specs.inside.NamedSets.{nothing, sets_alone}
use Rattle.run_state.proofs.named_sets.NamedSets.open.Given as goal

-- the sets of the names so far
abbrev pub invariant-names : goal.invariant-names
invariant-names l = (g : GraphValue) → g.vertices ≡ l.vertices
    → l.opened ≡ sets_alone l.vertices (record nothing { sets = map (full_set g) (take l.name-index l.names) })
