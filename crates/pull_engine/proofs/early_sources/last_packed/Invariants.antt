use Rattle.std.proofs.Common.{◌≡◌, ◌≤◌, length, take}
use Rattle.std.specs.List.{filter}
use Rattle.std.specs.Map.{keys_of}
use Rattle.edge_apply.specs.Words.{passes_words}
use Rattle.pull_engine.specs.EarlySources.{last_source}
use Rattle.pull_engine.proofs.early_sources.last_packed.Given as goal

-- none passes from the end on
abbrev pub invariant-down : goal.invariant-down
invariant-down l = record {
  within : l.end ≤ length l.sources;
  left : last_source (filter (passes_words l.from) (take l.end (keys_of l.sources))) ≡ last_source (filter (passes_words l.from) (keys_of l.sources));
}

abbrev pub decreases-down : goal.decreases-down
decreases-down l = l.end
