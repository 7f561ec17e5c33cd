-- Proofs of `rejoin`, src/forked.rt.
use Rattle.std.proofs.Common.{◌∷◌, ◌++◌, Some, refl}
use Rattle.shared_tree.proofs.ChangedMaps.{map_around, changed_around, grew_around}
use Rattle.vertex_blocks.specs.Blocks.{edge_total}
use Rattle.vertex_blocks.specs.Changes.{IsBlockAfter}
use Rattle.tree_batch.proofs.CutAround.{cut_split, cut_joined}
use Rattle.tree_batch.proofs.forked.rejoin.Goals as goal

pub join_around-requires : goal.join_around-requires
join_around-requires c =
    let r = c.requires in
    let split = cut_split r.us c.args.middle.now.number _ _ _ r.around.cut r.order r.below.changes r.above.changes r.below.cut r.above.cut r.block.change r.block.updates in
    map_around IsBlockAfter c.args.middle.now.number r.bs _ _ _ _ _ _ _ r.below.values r.above.values _ _ c.args.block r.around.map split

pub returns : goal.returns
returns c = λ bs us order around.
    let r = c.requires in
    let m = c.args.middle.now in
    let split = cut_split us m.number _ _ _ around.cut order r.below.changes r.above.changes r.below.cut r.above.cut r.block.change r.block.updates in
    record {
      changes = r.below.changes ++ (m.number, r.block.change) ∷ r.above.changes;
      cut = cut_joined us m.number _ _ _ around.cut order r.below.changes r.above.changes r.below.cut r.above.cut r.block.change r.block.updates;
      values = rw c.in_ok-tree.ensures (changed_around IsBlockAfter m.number bs _ _ _ _ _ _ _ r.below.values r.above.values _ (Some r.block.change) c.args.block around.map split r.block.after);
      growth = grew_around edge_total m.number bs _ _ _ c.in_ok-tree.tree.entries _ _ _ around.map.whole c.in_ok-tree.ensures c.args.below.growth c.args.above.growth c.growth-growth.result _ _
          r.below.growth r.above.growth (rw (c.as_ref.ensures.value, c.as_ref-2.ensures.value) at c.growth-growth.ensures) refl refl;
    }
