use Rattle.std.proofs.Common.{◌≡◌, ◌++◌, pos, get_or}
use Rattle.vectors.specs.Lanes.{lane_entry}
use Rattle.edge_fold.specs.Changed.{changed_from}
use Rattle.edge_fold.proofs.whole_changes.push_each.Given as goal

-- the changes of the vertices so far are added
abbrev pub invariant-indices : goal.invariant-indices
invariant-indices l = l.changes.items ≡ l.fn.changes.items ++ changed_from (lane_entry l.old) (λ v. get_or l.new v (pos 0)) l.first l.index
