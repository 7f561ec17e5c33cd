-- Proofs of `keep_members`, src/passing.rt.
use Rattle.std.proofs.Common.{◌<◌, length, get_or, sym, ◌∙◌}
use Rattle.edge_fold.proofs.Findings.{member_is, one_more_kept}
use Rattle.edge_fold.proofs.passing.keep_members.Goals as goal

pub members-preserved : goal.members-preserved
members-preserved c test is =
    let vs = c.args.vertices.now in
    let i = c.members.vertex-index in
    let inside : i < length vs = c.members-test.true in
    one_more_kept test vs i c.contains.result c.members.kept.items c.args.kept.now.items c.keep_where.new.kept.items inside
    (member_is (get_or vs i 0) c.args.set.now.members c.contains.result c.contains.ensures ∙ sym (is (get_or vs i 0))) (c.members.invariant test is) c.in_ok-keep_where.ensures
