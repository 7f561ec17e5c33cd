use Rattle.std.proofs.Common.{◌≡◌, ◌++◌, drop}
use Rattle.algorithm_meaning.specs.Meaning.{named_vectors}
use Rattle.plain_run.proofs.outcome.name_vectors.Given as goal

-- what is named, and what is still to be, are all
abbrev pub invariant-vectors : goal.invariant-vectors
invariant-vectors l =
    l.named.items ++ named_vectors l.names (drop l.vector-index l.declared) l.left.rest.items
    ≡ named_vectors l.names l.declared l.fn.vectors.items
