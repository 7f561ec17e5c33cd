-- Proofs of `shape_pair`, src/statements.rt.
use Rattle.std.proofs.Common.{rules, ◌≡◌, None, ◌++◌}
use Rattle.kernels.specs.ShapePairs.{shape_given}
use Rattle.edge_fold.proofs.ShapePairs.{one_given}
use Rattle.edge_fold.proofs.apply_context.ApplyContext.shape_pair.Goals as goal

pub returns : goal.returns
returns c m steps are edge =
    let f = c.args.self in
    let alone : f.second ≡ None = search rules in
    let pair = c.in_ok-pair.pair in
    one_given f m steps edge (shape_given pair.first m edge ++ shape_given pair.second m edge) are alone
    (λ a kernel. c.in_ok-pair.ensures a m f.sizes.now edge kernel are.sizes)
