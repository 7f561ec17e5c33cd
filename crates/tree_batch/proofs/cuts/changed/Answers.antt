-- Proofs of `changed`, src/cuts.rt.
use Rattle.std.proofs.Common.{◌^◌, arith}
use Rattle.ascending_lists.proofs.MapOrder.{rises_to}
use Rattle.tree_batch.proofs.cuts.changed.Goals as goal

pub change_all-requires : goal.change_all-requires
change_all-requires c = rw c.deref.ensures.value (rises_to 0 (2 ^ 18) (2 ^ 32) c.in_ok-changes.changes.items c.in_ok-changes.ensures.map (omega arith))

pub returns : goal.returns
returns c = record {
  changes = c.in_ok-changes.changes.items;
  cut = c.in_ok-changes.ensures;
  values = rw c.deref.ensures.value at c.in_ok-change_all.ensures.values;
  growth = c.in_ok-change_all.ensures.growth;
}
