use Rattle.std.proofs.Common.{◌≡◌, ◌+◌}
use Rattle.runner.specs.inside.Employment.{work_into, work_into_end}
use Rattle.runner.proofs.employment.edges_into.Given as goal

-- what is counted, with what is left, is the whole
abbrev pub invariant-destinations : goal.invariant-destinations
invariant-destinations l = l.edges + work_into l.flat.edges l.destination-iterator ≡ work_into_end l.flat.edges l.to
