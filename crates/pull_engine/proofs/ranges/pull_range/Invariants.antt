use Rattle.std.proofs.Common.{◌≡◌, ◌*◌, ◌-◌}
use Rattle.edge_apply.specs.Words.{passes_words}
use Rattle.edge_fold.specs.Changed.{changed_from}
use Rattle.vectors.specs.Lanes.{lane_entry}
use Rattle.pull_engine.specs.inside.Lets.{lets}
use Rattle.pull_engine.specs.inside.Ranges.{pulled_to}
use Rattle.pull_engine.proofs.RangeCuts.{within}
use Rattle.pull_engine.proofs.ranges.pull_range.Given as goal

-- the changes so far are those of the blocks so far, and the destinations stay
abbrev pub invariant-rounds : goal.invariant-rounds
invariant-rounds g l =
    let old = lane_entry l.pull.old in
    (l.to ≡ l.initial.to) × (l.changes.items ≡ changed_from old
    (pulled_to (g.F.SourceFold.reduction l.fold) (g.F.SourceFold.number l.fold) old (passes_words l.pull.from) (within l.range.low l.range.high (lets l.initial.to)) l.pull.flat.now.edges)
    (64 * l.first) (64 * (l.block - l.first)))
