use Rattle.std.proofs.Common.{◌≡◌, ◌+◌, ◌≤◌}
use Rattle.push_engine.specs.Work.{work_from}
use Rattle.push_engine.proofs.changes.count_work.Given as goal

-- what is counted, with what is left, is the whole
abbrev pub invariant-sources : goal.invariant-sources
invariant-sources l = record {
  few : l.work ≤ l.limit;
  whole : l.work + work_from l.flat.edges l.source-iterator ≡ work_from l.flat.edges l.sources.members;
}
