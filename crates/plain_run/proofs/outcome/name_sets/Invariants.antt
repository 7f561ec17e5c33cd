use Rattle.std.proofs.Common.{◌≡◌, ◌++◌, map}
use Rattle.algorithm_meaning.specs.Meaning.{named_set}
use Rattle.plain_run.proofs.outcome.name_sets.Given as goal

-- what is named, and what is still to be, are all
abbrev pub invariant-sets : goal.invariant-sets
invariant-sets l = l.named.items ++ map (named_set l.names) l.set-iterator.rest.items ≡ map (named_set l.names) l.fn.sets.items
