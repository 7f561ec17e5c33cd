use Rattle.std.proofs.Common.{◌≡◌, ◌-◌, length, drop}
use Rattle.std.specs.List.{filter}
use Rattle.std.specs.Map.{keys_of}
use Rattle.edge_apply.specs.Words.{passes_words}
use Rattle.pull_engine.specs.EarlySources.{first_of}
use Rattle.pull_engine.proofs.early_sources.first_packed.Given as goal

-- none passes up to the index
abbrev pub invariant-up : goal.invariant-up
invariant-up l = first_of (filter (passes_words l.from) (drop l.index (keys_of l.sources))) ≡ first_of (filter (passes_words l.from) (keys_of l.sources))

abbrev pub decreases-up : goal.decreases-up
decreases-up l = length l.sources - l.index
