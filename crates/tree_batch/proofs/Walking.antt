-- Blocks and their vertices that are walked, and what is left of them.
use Rattle.std.proofs.Common.{◌≡◌, ℕ, ℤ, ◌+◌, ◌*◌, ◌^◌, ◌<◌, Option, List, [], ◌∷◌, ◌++◌, ap, sym, ◌∙◌, subst, arith}
use Rattle.ascending_lists.proofs.MapOrder as entries
use Rattle.vertex_blocks.specs.Blocks.{Block, IsBlock, vertices_at, numbered_vertices, lists_of}
use Rattle.tree_batch.specs.inside.VertexBlocks.{AreGraphBlocks, AreBlocksLeft}

module _ (k : ℕ) (left : Block) (bs : List (ℕ × Block)) (u : ℕ) (xs : List (ℕ × ℤ)) (rest : Block) (ok : AreBlocksLeft k left bs) (is : left ≡ (u, xs) ∷ rest) where
  block : IsBlock ((u, xs) ∷ rest)
  block = subst IsBlock is ok.vertices

  -- the first vertex is below 2 ^ 24
  pub first_small : 64 * k + u < 2 ^ 24
  first_small = omega (arith, ok.number, entries.rises_room (u + 1) 64 rest block.map.1)

  -- without it the rest is left
  pub rest_left : AreBlocksLeft k rest bs
  rest_left = record {
    number = ok.number;
    vertices = record { map = entries.rises_from 0 (u + 1) 64 rest (omega arith) block.map.1; lists = block.lists.1 };
    later = ok.later;
  }

-- the first of blocks is begun
pub block_begun : (bs later : List (ℕ × Block)) (k : ℕ) (b : Block) → AreGraphBlocks bs → bs ≡ (k, b) ∷ later → AreBlocksLeft k b later
block_begun bs later k b ok is =
    let here : AreGraphBlocks ((k, b) ∷ later) = subst AreGraphBlocks is ok in
    record {
      number = omega (arith, entries.rises_room (k + 1) (2 ^ 18) later here.map.1);
      vertices = here.blocks.0;
      later = record { map = entries.rises_from 0 (k + 1) (2 ^ 18) later (omega arith) here.map.1; blocks = here.blocks.2 };
    }

-- a block without a vertex left, and then the first of those after it
pub vertices_ended : (k : ℕ) (left : Option Block) (bs : List (ℕ × Block)) (all : List (ℕ × List (ℕ × ℤ))) → vertices_at left ≡ [] → numbered_vertices k (vertices_at left) ++ lists_of bs ≡ all
    → lists_of bs ≡ all
vertices_ended k left bs all none coming = rw none at coming

pub vertices_begun : (bs later : List (ℕ × Block)) (k : ℕ) (b c : Block) (all : List (ℕ × List (ℕ × ℤ))) → bs ≡ (k, b) ∷ later → c ≡ b → lists_of bs ≡ all
    → numbered_vertices k c ++ lists_of later ≡ all
vertices_begun bs later k b c all is same coming = ap (λ x. numbered_vertices k x ++ lists_of later) same ∙ sym (ap lists_of is) ∙ coming
