use Rattle.std.proofs.Common.{◌≡◌, ℕ, ◌+◌, ◌*◌, ◌^◌, ◌<◌, ◌≤◌, get_or, length, slice_range, take}
use Rattle.crew.specs.Limits.{weight}
use Rattle.push_engine.specs.inside.Degrees.{out_degrees}
use Rattle.push_engine.proofs.source_degrees.SourceDegrees.new.Given as goal

-- the runs that have come
abbrev pub invariant-runs : goal.invariant-runs
invariant-runs l = let degrees = out_degrees l.flat l.sources in record {
  count : length l.totals.items ≡ l.run;
  runs : (k : ℕ) → k < l.run → get_or l.totals.items k 0 ≡ weight (slice_range degrees (64 * k) (64 * k + 64));
  total : l.total ≡ weight (take (64 * l.run) degrees);
  few : l.total ≤ 64 * l.run * (2 ^ 32 + 1);
}
