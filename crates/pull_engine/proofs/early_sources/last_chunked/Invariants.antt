use Rattle.std.proofs.Common.{◌≡◌, length}
use Rattle.std.specs.List.{filter}
use Rattle.std.specs.Map.{keys_of}
use Rattle.kernels.specs.declared.columns.TheConstants.{PAIRS}
use Rattle.edge_apply.specs.Words.{passes_words}
use Rattle.pull_engine.specs.EarlySources.{last_source, last_or}
use Rattle.pull_engine.proofs.early_sources.last_chunked.Given as goal

-- the last of those that came, or of those that are left
abbrev pub invariant-rounds : goal.invariant-rounds
invariant-rounds l = record {
  room : length l.block ≡ PAIRS;
  found : last_or l.last (filter (passes_words l.from) (keys_of l.sources)) ≡ last_source (filter (passes_words l.from) (keys_of l.fn.sources));
}

abbrev pub decreases-rounds : goal.decreases-rounds
decreases-rounds l = length l.sources
