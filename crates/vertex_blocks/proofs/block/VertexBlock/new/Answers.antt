-- Proofs of `new`, src/block.rt.
use Rattle.std.proofs.Common.{◌+◌, Some, sym, subst, arith}
use Rattle.vertex_blocks.specs.declared.block.Parts.{Parts}
use Rattle.vertex_blocks.specs.inside.Joined.{joined, CanJoin, IsBlockOf}
use Rattle.vertex_blocks.proofs.Sums.{no_block, one_block, can_join}
use Rattle.vertex_blocks.proofs.block.VertexBlock.new.Goals as goal

pub returns-then-edge_count-eq0 : goal.returns-then-edge_count-eq0
returns-then-edge_count-eq0 c =
    no_block c.args.page c.args.long c.packed_edges.ensures.page c.edge_count.ensures.long c.requires
    (omega (arith, c.packed_edges.ensures.count, c.edge_count.ensures.count, c.if-edge_count-eq0.true))

pub invariant_of-result : goal.invariant_of-result
invariant_of-result c =
    subst (λ (v : Parts). CanJoin v.page v.long v.edge_count) (sym c.in_ok-new.ensures.ok)
    (can_join c.args.page c.args.long c.packed_edges.ensures.page c.edge_count.ensures.long c.requires (c.packed_edges.result + c.edge_count.result)
    (omega (arith, c.packed_edges.ensures.count, c.edge_count.ensures.count)))

pub returns : goal.returns
returns c =
    subst (λ (v : Parts). IsBlockOf c.args.page c.args.long (Some (joined v.page v.long))) (sym c.in_ok-new.ensures.ok)
    (one_block c.args.page c.args.long c.packed_edges.ensures.page c.edge_count.ensures.long c.requires
    (omega (arith, c.packed_edges.ensures.count, c.edge_count.ensures.count, c.if-edge_count-eq0.false)))
