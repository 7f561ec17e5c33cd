-- Trees that are changed, below a block, at it and above it.
use Rattle.std.specs.Prelude.{◌≡◌, ℕ, ℤ, Option, List}
use Rattle.std.specs.Map.{keys_of}
use Rattle.shared_tree.specs.declared.change_all.Changed.{Changed}
use Rattle.shared_tree.specs.Changes.{IsSplit}
use Rattle.shared_tree.specs.ChangedMaps.{IsChangedMap, total_weight, GrewBy}
use Rattle.edge_updates.specs.declared.edge_update.EdgeUpdate.{EdgeUpdate}
use Rattle.edge_updates.specs.Updates.{Ascend}
use Rattle.vertex_blocks.specs.declared.block.VertexBlock.{VertexBlock}
use Rattle.vertex_blocks.specs.Blocks.{Block, edge_total}
use Rattle.vertex_blocks.specs.Changes.{BlockChange, IsBlockAfter}
use Rattle.tree_batch.specs.declared.middle.Middle.{Middle}
use Rattle.tree_batch.specs.inside.BlockCuts.{AreCut, IsCutAround}

-- both are cut at the block in the middle
pub record AreAround (bs : List (ℕ × Block)) (us : List (EdgeUpdate × ℤ)) (m : Middle) : Type 0 where
  pub map : IsSplit m.number bs m.below.tree.entries m.found m.above.tree.entries
  pub cut : IsCutAround us m.number m.below.updates m.updates m.above.updates

-- the tree is changed by the updates, cut by blocks, and its growth reported
pub record IsChangedTree (us : List (EdgeUpdate × ℤ)) (bs : List (ℕ × Block)) (c : Changed VertexBlock) : Type 0 where
  pub changes : List (ℕ × BlockChange)
  pub cut : AreCut us changes
  pub values : IsChangedMap IsBlockAfter changes bs c.tree.entries
  pub growth : GrewBy (total_weight edge_total bs) c.growth (total_weight edge_total c.tree.entries)

-- the block is changed by the updates
pub record IsChangedBlock (us : List (EdgeUpdate × ℤ)) (old new : Option Block) : Type 0 where
  pub change : BlockChange
  pub updates : change.updates ≡ us
  pub after : IsBlockAfter change old new

-- both sides of a block and the block are changed, from a tree and updates that are cut there
pub record CanRejoin (m : Middle) (lower : Changed VertexBlock) (made : Option Block) (upper : Changed VertexBlock) : Type 0 where
  pub bs : List (ℕ × Block)
  pub us : List (EdgeUpdate × ℤ)
  pub order : Ascend (keys_of us)
  pub around : AreAround bs us m
  pub below : IsChangedTree m.below.updates m.below.tree.entries lower
  pub above : IsChangedTree m.above.updates m.above.tree.entries upper
  pub block : IsChangedBlock m.updates m.found made

-- both sides of a block are changed
pub record AreSides (m : Middle) (lower upper : Changed VertexBlock) : Type 0 where
  pub below : IsChangedTree m.below.updates m.below.tree.entries lower
  pub above : IsChangedTree m.above.updates m.above.tree.entries upper
