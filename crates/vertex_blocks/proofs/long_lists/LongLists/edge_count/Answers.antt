-- Proofs of `edge_count`, src/long_lists.rt.
use Rattle.std.proofs.Common.{[], ◌∷◌, length, take, ap, arith}
use Rattle.ascending_lists.proofs.MapOrder.{rises_room}
use Rattle.vertex_blocks.specs.Blocks.{edge_total}
use Rattle.vertex_blocks.specs.inside.LongLists.{long_entry, long_entries}
use Rattle.vertex_blocks.proofs.Sums.{total_append}
use Rattle.vertex_blocks.proofs.LongTables.{long_length, long_next}
use Rattle.vertex_blocks.proofs.long_lists.LongLists.edge_count.Goals as goal

pub overflow_add-total : goal.overflow_add-total
overflow_add-total c =
    let items = c.self.inside.entries.items in
    omega (
      arith,
      c.loop-entry.invariant.few,
      c.loop-entry-test.true,
      ap length c.deref-entry-items.ensures.value,
      c.len-total.ensures.bounded,
      long_length items,
      rises_room 0 64 (long_entries items) c.self.invariant.index.map,
    )

pub loop-entry-preserved : goal.loop-entry-preserved
loop-entry-preserved c =
    let xs = c.deref-entry-items.result.now in
    let i = c.loop-entry.entry-index in
    let s = c.entry-item.result in
    record {
      total = omega (
        arith,
        c.loop-entry.invariant.total,
        ap edge_total (long_next xs i s c.loop-entry-test.true c.entry-item.is),
        total_append (long_entries (take i xs)) (long_entry s ∷ []),
        c.len-total.ensures.len,
      );
      few = omega (arith, c.loop-entry.invariant.few, c.len-total.ensures.bounded);
    }

pub returns-clause-few : goal.returns-clause-few
returns-clause-few c =
    let items = c.self.inside.entries.items in
    omega (
      arith,
      c.loop-entry.invariant.few,
      c.loop-entry.auto.entry-index-end,
      ap length c.deref-entry-items.ensures.value,
      long_length items,
      rises_room 0 64 (long_entries items) c.self.invariant.index.map,
    )
