use Rattle.std.proofs.Common.{◌≡◌, ◌+◌, ◌*◌, ◌++◌, replicate}
use Rattle.crew.specs.Boundaries.{run_ends_from}
use Rattle.crew.proofs.partition.push_runs.Given as goal

-- the runs so far
abbrev pub invariant-runs : goal.invariant-runs
invariant-runs l = record {
  end : l.end ≡ l.start + l._index * l.run;
  ends : l.ends.items ≡ l.fn.ends.items ++ run_ends_from l.start (replicate l._index l.run);
}
