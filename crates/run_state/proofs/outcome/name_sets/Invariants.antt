use Rattle.std.proofs.Common.{◌≡◌, ◌++◌, map, drop}
use Rattle.algorithm_meaning.specs.Meaning.{named_set}
use Rattle.run_state.specs.inside.NamedSets.{named}
use Rattle.run_state.proofs.outcome.name_sets.Given as goal

-- what is named, and what is still to be, are all
abbrev pub invariant-sets : goal.invariant-sets
invariant-sets l =
    l.shown.items ++ map (named_set l.names) (named (drop l.position l.set_names) (drop l.position l.sets)).sets
    ≡ map (named_set l.names) (named l.set_names l.sets).sets
