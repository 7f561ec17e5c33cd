use Rattle.std.proofs.Common.{◌-◌, ◌≡◌}
use Rattle.vertex_blocks.specs.Blocks.{IsBlock}
use Rattle.vertex_blocks.specs.inside.Blocks.{vertices_from}
use Rattle.vertex_blocks.proofs.block_iter.BlockIterIterator.next.Given as goal

abbrev pub invariant-loop-self : goal.invariant-loop-self
invariant-loop-self l = record {
  coming : vertices_from l.self-inside.vertex l.self-inside.block.now ≡ l.fn.self;
  block : IsBlock l.self-inside.block.now;
}

abbrev pub decreases-loop-self : goal.decreases-loop-self
decreases-loop-self l = 64 - l.self-inside.vertex
