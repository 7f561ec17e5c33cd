-- The updates of a batch, sorted, with their weights.
use Rattle.std.specs.Prelude.{ℤ, List, map}
use Rattle.edge_updates.specs.declared.edge_update.EdgeUpdate.{EdgeUpdate}
use Rattle.edge_updates.specs.Updates.{unit_pair}
use Rattle.edge_updates.specs.WeightedUpdates.{pairs_in}
use Rattle.tree_batch.specs.declared.updates.SortedUpdates.{SortedUpdates}
use Rattle.tree_batch.specs.declared.updates.SortedUpdates.TheVariants as sorted

-- each update with its weight
abbrev pub sorted_pairs : SortedUpdates → List (EdgeUpdate × ℤ)
sorted_pairs (sorted.Unweighted s) = map unit_pair s.updates.items
sorted_pairs (sorted.Weighted s) = pairs_in s.updates.items
