-- Chunks of 64 blocks.
use Rattle.std.specs.Prelude.{◌≡◌, ℕ, ℤ, ◌+◌, ◌^◌, ◌<◌, ◌≤◌, ◌/◌, ◌%◌, Bool, true, Option, None, List, [], ◌∷◌, ◌++◌, length, get_or}
use Rattle.std.specs.Option.{option_or}
use Rattle.std.specs.declared.sync.Arc.{Arc}
use Rattle.ascending_lists.specs.Maps.{Rises, lookup}
use Rattle.pages.specs.Vertices.{neighbours_of}
use Rattle.vertex_blocks.specs.Blocks.{Block, AreBlocks, lists_of, vertices_at}
use Rattle.tree_batch.specs.VertexBlocks.{HaveFew}
use Rattle.flat_snapshot.specs.declared.chunk.Chunk.{Chunk}
use Rattle.flat_snapshot.specs.inside.Lists.{AreBlocks as AreInPlace}

-- whether the chunk k is changed, of which a list says so; those beyond the list are
abbrev pub is_changed : List Bool → ℕ → Bool
is_changed changed k = get_or changed k true

-- the slots of chunks, one after another
abbrev pub slots_in : {Z : Type 0} → List (Arc Chunk Z) → List (Option Block)
slots_in [] = []
slots_in (c ∷ cs) = c.value.blocks ++ slots_in cs

-- each chunk has 64 slots, with a block in each, where there is one
abbrev pub AreChunks : {Z : Type 0} → List (Arc Chunk Z) → Type 0
AreChunks [] = Unit {0}
AreChunks (c ∷ cs) = (length c.value.blocks ≡ 64) × AreInPlace c.value.blocks × AreChunks cs

-- these are the slots of the chunk k, whose vertices have these neighbours
pub record IsChunkOf (es : List (ℕ × List (ℕ × ℤ))) (k : ℕ) (slots : List (Option Block)) : Type 0 where
  pub full : length slots ≡ 64
  pub blocks : AreInPlace slots
  pub lists : (u : ℕ) → u / 4096 ≡ k → neighbours_of (u % 64) (vertices_at (get_or slots (u / 64 % 64) None)) ≡ neighbours_of u es

-- these are the chunks from k on
abbrev pub AreChunksOf : {Z : Type 0} → List (ℕ × List (ℕ × ℤ)) → ℕ → List (Arc Chunk Z) → Type 0
AreChunksOf es k [] = Unit {0}
AreChunksOf es k (c ∷ cs) = IsChunkOf es k c.value.blocks × AreChunksOf es (k + 1) cs

-- blocks of vertices below n, ascending
pub record AreBlocksBelow (n : ℕ) (bs : List (ℕ × Block)) : Type 0 where
  pub map : Rises 0 (2 ^ 18) bs
  pub blocks : AreBlocks bs
  pub few : HaveFew (lists_of bs)
  pub count : n ≤ 2 ^ 24
  pub none : (u : ℕ) → n ≤ u → neighbours_of u (lists_of bs) ≡ []

-- the blocks with the 64 numbers from one on came into their places
pub record ArePut (bs : List (ℕ × Block)) (first : ℕ) (old new : List (Option Block)) : Type 0 where
  pub count : length new ≡ length old
  pub places : (i : ℕ) → i < 64 → get_or new i None ≡ option_or (lookup (first + i) bs) (get_or old i None)
