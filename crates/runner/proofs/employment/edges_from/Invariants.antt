use Rattle.std.proofs.Common.{◌≡◌, ◌+◌}
use Rattle.push_engine.specs.Work.{work_from, work_from_end}
use Rattle.runner.proofs.employment.edges_from.Given as goal

-- what is counted, with what is left, is the whole
abbrev pub invariant-sources : goal.invariant-sources
invariant-sources l = l.edges + work_from l.flat.edges l.source-iterator ≡ work_from_end l.flat.edges l.from
