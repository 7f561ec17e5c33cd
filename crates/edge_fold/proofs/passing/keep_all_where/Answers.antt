-- Proofs of `keep_all_where`, src/passing.rt.
use Rattle.std.proofs.Common.{◌<◌, length, ◌∙◌}
use Rattle.edge_fold.proofs.Findings.{one_more_kept}
use Rattle.edge_fold.proofs.passing.keep_all_where.Goals as goal

pub indices-preserved : goal.indices-preserved
indices-preserved c test is =
    let vs = c.args.part.now in
    let i = c.indices.index in
    let inside : i < length vs = c.indices-test.true in
    one_more_kept test vs i c.passes.result c.indices.kept.items c.args.kept.now.items c.keep_where.new.kept.items inside
    (c.passes.ensures ∙ is i inside) (c.indices.invariant test is) c.in_ok-keep_where.ensures
