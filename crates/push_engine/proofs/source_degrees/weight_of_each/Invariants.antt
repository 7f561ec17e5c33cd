use Rattle.std.proofs.Common.{◌≡◌, ◌+◌, ◌*◌, ◌^◌, ◌≤◌, take}
use Rattle.crew.specs.Limits.{weight}
use Rattle.push_engine.specs.inside.Degrees.{out_degrees}
use Rattle.push_engine.proofs.source_degrees.weight_of_each.Given as goal

-- the sources that have come, and the edges from them
abbrev pub invariant-sources : goal.invariant-sources
invariant-sources l = record {
  weight : l.weight ≡ weight (out_degrees l.flat (take l.source-index l.run));
  few : l.weight ≤ l.source-index * (2 ^ 32 + 1);
}
