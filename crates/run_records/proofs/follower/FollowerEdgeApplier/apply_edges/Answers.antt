-- Proofs of `apply_edges` of a follower, src/follower.rt.
use Rattle.run_records.proofs.Meant.{followed_is_meant}
use Rattle.run_records.proofs.follower.FollowerEdgeApplier.apply_edges.Goals as goal

pub returns-clause-changes : goal.returns-clause-changes
returns-clause-changes over c =
    followed_is_meant c.args.run c.args.asked c.apply_of-apply.result c.in_ok-changes.changes.vectors.items c.vertices.ensures.graph c.apply_of-apply.ensures
    c.in_ok-changes.ensures.once c.in_ok-changes.ensures.changes
