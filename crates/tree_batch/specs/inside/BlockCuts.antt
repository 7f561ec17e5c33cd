-- Updates that are cut into those of blocks.
use Rattle.std.specs.Prelude.{◌≡◌, ◌≢◌, ℕ, ◌+◌, ◌/◌, ◌^◌, ◌<◌, ◌≤◌, ℤ, Option, Some, None, List, [], ◌∷◌, ◌++◌, length}
use Rattle.std.specs.Option.{option_or}
use Rattle.std.specs.Map.{keys_of}
use Rattle.ascending_lists.specs.Maps.{Rises, lookup}
use Rattle.edge_updates.specs.declared.edge_update.EdgeUpdate.{EdgeUpdate}
use Rattle.edge_updates.specs.EdgeUpdate.{vertex_of}
use Rattle.edge_updates.specs.Updates.{Ascend}
use Rattle.edge_updates.specs.Updates.{decided_weight}
use Rattle.pages.specs.Updates.{AreOfBlock, EdgesAscend}
use Rattle.vertex_blocks.specs.Changes.{BlockChange}
use Rattle.tree_batch.specs.Edge.{Ends}

-- the updates, of which there are some, are of the block k, and ascend
pub record IsCutAt (k : ℕ) (c : BlockChange) : Type 0 where
  pub some : 0 < length c.updates
  pub block : AreOfBlock k c.updates
  pub order : EdgesAscend 0 c.updates

-- what the updates of a block say of an edge, if the block has some
abbrev pub block_decided : Option BlockChange → Ends → Option (Option ℤ)
block_decided None e = None
block_decided (Some c) e = decided_weight c.updates e

-- Updates cut by blocks: each block that they name is below 2 ^ 18 and has its own.
pub record AreCut (all : List (EdgeUpdate × ℤ)) (blocks : List (ℕ × BlockChange)) : Type 0 where
  pub map : Rises 0 (2 ^ 18) blocks
  pub cuts : (k : ℕ) (c : BlockChange) → lookup k blocks ≡ Some c → IsCutAt k c
  pub same : (e : Ends) → block_decided (lookup (e.0 / 64) blocks) e ≡ decided_weight all e

-- the first update is not of the block k
abbrev pub BeginsElsewhere : ℕ → List (EdgeUpdate × ℤ) → Type 0
BeginsElsewhere k [] = Unit {0}
BeginsElsewhere k (u ∷ us) = vertex_of u.0 / 64 ≢ k

-- the first update is of no block below low
abbrev pub BeginsFrom : ℕ → List (EdgeUpdate × ℤ) → Type 0
BeginsFrom low [] = Unit {0}
BeginsFrom low (u ∷ us) = low ≤ vertex_of u.0 / 64

-- Some of the updates are cut, and the rest are still to be read.
pub record AreCutSoFar (all rest : List (EdgeUpdate × ℤ)) (blocks : List (ℕ × BlockChange)) : Type 0 where
  pub low : ℕ
  pub order : Ascend (keys_of rest)
  pub begins : BeginsFrom low rest
  pub rise : Rises 0 low blocks
  pub small : low ≤ 2 ^ 18
  pub cuts : (k : ℕ) (c : BlockChange) → lookup k blocks ≡ Some c → IsCutAt k c
  pub same : (e : Ends) → decided_weight all e ≡ option_or (decided_weight rest e) (block_decided (lookup (e.0 / 64) blocks) e)

-- the updates are of blocks below k
abbrev pub AreBelow : ℕ → List (EdgeUpdate × ℤ) → Type 0
AreBelow k [] = Unit {0}
AreBelow k (u ∷ us) = (vertex_of u.0 / 64 < k) × AreBelow k us

-- the updates are of blocks from k on
abbrev pub AreFrom : ℕ → List (EdgeUpdate × ℤ) → Type 0
AreFrom k [] = Unit {0}
AreFrom k (u ∷ us) = (k ≤ vertex_of u.0 / 64) × AreFrom k us

-- Updates whose edges ascend are cut around those of the block k.
pub record IsCutAround (all : List (EdgeUpdate × ℤ)) (k : ℕ) (front middle back : List (EdgeUpdate × ℤ)) : Type 0 where
  pub whole : all ≡ front ++ (middle ++ back)
  pub small : k < 2 ^ 18
  pub below : AreBelow k front
  pub some : 0 < length middle
  pub block : AreOfBlock k middle
  pub above : AreFrom (k + 1) back
