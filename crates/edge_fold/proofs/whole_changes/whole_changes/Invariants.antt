use Rattle.std.proofs.Common.{◌≡◌, ◌*◌, min, pos, get_or}
use Rattle.vectors.specs.Lanes.{lane_entry}
use Rattle.edge_fold.specs.Changed.{changed_from}
use Rattle.edge_fold.proofs.whole_changes.whole_changes.Given as goal

-- the changes of the blocks so far are found
abbrev pub invariant-rounds : goal.invariant-rounds
invariant-rounds l = l.changes.items ≡ changed_from (lane_entry l.old) (λ v. get_or l.new v (pos 0)) 0 (min (64 * l.block) l.count)
