-- Proofs of `count_below`, src/change_all.rt.
use Rattle.std.proofs.Common.{◌+◌, ◌-◌, ◌/◌, ◌<◌, ◌≤◌, sym, subst, arith}
use Rattle.shared_tree.proofs.CutMaps.{rises_before, rises_after}
use Rattle.shared_tree.proofs.change_all.count_below.Goals as goal

pub loop-low-preserved-then-changes-middle : goal.loop-low-preserved-then-changes-middle
loop-low-preserved-then-changes-middle g c =
    let middle = c.loop-low.low + (c.loop-low.high - c.loop-low.low) / 2 in
    let change = c.index-changes-middle in
    record {
      low = omega arith;
      high = c.loop-low.invariant.high;
      below = rises_before c.args.changes.now middle change.result c.requires (omega arith) change.is c.args.key (subst (λ e. e.0 < c.args.key) (sym change.is) c.if-changes-middle.true);
      above = c.loop-low.invariant.above;
    }

pub loop-low-preserved : goal.loop-low-preserved
loop-low-preserved g c =
    let middle = c.loop-low.low + (c.loop-low.high - c.loop-low.low) / 2 in
    let change = c.index-changes-middle in
    record {
      low = omega arith;
      high = omega arith;
      below = c.loop-low.invariant.below;
      above = rises_after c.args.changes.now middle change.result c.requires (omega arith) change.is c.args.key (subst (λ e. c.args.key ≤ e.0) (sym change.is) c.if-changes-middle.false);
    }
