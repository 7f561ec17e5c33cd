-- Proofs of `packed_edges`, src/block.rt.
use Rattle.std.proofs.Common.{ap, arith}
use Rattle.ascending_lists.proofs.MapOrder.{rises_room}
use Rattle.vertex_blocks.specs.Blocks.{edge_total}
use Rattle.vertex_blocks.proofs.Sums.{packed_total}
use Rattle.vertex_blocks.proofs.block.packed_edges.Goals as goal

pub prove-unreachable-requires : goal.prove-unreachable-requires
prove-unreachable-requires c = omega (arith, c.if-prove.true, c.len.ensures.count, rises_room 0 64 c.args.page.now c.len.ensures.page.map)

pub overflow_add-total : goal.overflow_add-total
overflow_add-total c =
    omega (
      arith,
      c.loop-list.invariant.count,
      ap edge_total c.in-Some.ensures.steps,
      c.len-total.ensures.count,
      packed_total c.args.page.now c.len.ensures.page.packed,
      rises_room 0 64 c.args.page.now c.len.ensures.page.map,
    )

pub returns-clause-few : goal.returns-clause-few
returns-clause-few c =
    omega (arith, c.loop-list.invariant.count, packed_total c.args.page.now c.len.ensures.page.packed, rises_room 0 64 c.args.page.now c.len.ensures.page.map)
