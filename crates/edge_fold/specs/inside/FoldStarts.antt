-- Beside `FoldStarts`: definitions that no public contract cites.
use Rattle.std.specs.Prelude.{ℕ, ℤ}
use Rattle.vectors.specs.Lanes.{lane_entry}
use Rattle.edge_fold.specs.declared.apply_context.FoldStart.{FoldStart}
use Rattle.edge_fold.specs.declared.initial_entries.InitialEntries.{InitialEntries}
use Rattle.edge_fold.specs.declared.apply_context.FoldStart.TheVariants as start
use Rattle.edge_fold.specs.declared.initial_entries.InitialEntries.TheVariants as seeds

-- where a fold starts from these initial entries, and its seed at a vertex
abbrev pub start_of : InitialEntries → FoldStart
start_of (seeds.Entries old) = start.OldEntry
start_of seeds.Unit = start.Unit

abbrev pub initial_seed : InitialEntries → (v : ℕ) → ℤ → ℤ
initial_seed (seeds.Entries old) v h = lane_entry old v
initial_seed seeds.Unit v h = h
