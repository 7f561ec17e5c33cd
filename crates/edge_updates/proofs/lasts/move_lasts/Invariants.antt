use Rattle.std.proofs.Common.{◌≡◌, ◌++◌, ◌≤◌, take, drop}
use Rattle.edge_updates.specs.inside.LastUpdates.{last_updates}
use Rattle.edge_updates.proofs.lasts.move_lasts.Given as goal

abbrev pub invariant-loop-index : goal.invariant-loop-index
invariant-loop-index g l = record {
  bounded : l.kept ≤ l.index;
  lasts : take l.kept l.updates ++ last_updates g.T.Keyed.key_of (drop l.index l.updates) ≡ last_updates g.T.Keyed.key_of l.fn.updates;
}
