use Rattle.std.proofs.Common.{◌≡◌, ◌+◌, ◌-◌, ◌<◌, ◌≤◌, length, map, take, drop}
use Rattle.std.specs.List.{All}
use Rattle.edge_apply.specs.Words.{is_set}
use Rattle.pull_engine.specs.inside.Columns.{entry_at}
use Rattle.pull_engine.specs.Columns.{passing}
use Rattle.pull_engine.proofs.chosen_sources.choose.Given as goal

-- the indices that have come and whose sources pass are at the front
abbrev pub invariant-indices : goal.invariant-indices
invariant-indices l = record {
  from : l.low ≤ l.index;
  few : l.kept + l.low ≤ l.index;
  room : length l.indices ≡ length l.fn.indices;
  inside : All (λ i. i < length l.list) (take l.kept l.indices);
  chosen : map (entry_at l.list) (take l.kept l.indices) ≡ passing (is_set l.words) (take (l.index - l.low) (drop l.low l.list));
}
