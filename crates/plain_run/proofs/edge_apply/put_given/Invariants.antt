use Rattle.std.proofs.Common.{◌≡◌, drop}
use Rattle.algorithm_meaning.specs.EdgeApply.{with_given}
use Rattle.plain_run.proofs.edge_apply.put_given.Given as goal

-- what is left to do from here comes to what was to be done
abbrev pub invariant-given : goal.invariant-given
invariant-given l = with_given l.vertex (drop l.contribution-index l.given) l.vectors.items ≡ with_given l.vertex l.given l.fn.vectors.items
