-- Proofs of `entry_contribution`, src/entry_contributions.rt.
use Rattle.std.proofs.Common.{rules, ◌≡◌, ℕ, ℤ, None, [], ◌∷◌}
use Rattle.apply_options.specs.declared.reduction.Reduction.{Reduction}
use Rattle.algorithm_meaning.specs.Arithmetic.{arithmetic}
use Rattle.algorithm_meaning.specs.Value.{entry}
use Rattle.kernels.specs.Meaning.{given_in}
use Rattle.edge_fold.proofs.ShapePairs.{one_given, shaped_given}
use Rattle.edge_fold.proofs.apply_context.ApplyContext.entry_contribution.Goals as goal

pub returns : goal.returns
returns c m steps are edge =
    let f = c.args.self in
    let alone : f.second ≡ None = search rules in
    let given = c.in_ok-given.given in
    let number = arithmetic given.operator (entry m.vectors given.from edge.0) edge.2 in
    let g : ℕ × Reduction × ℤ = (given.vector, given.reduction, number) in
    one_given f m steps edge (g ∷ []) are alone
    (λ a kernel. shaped_given c.shape.result m edge (given_in m a edge) g (c.shape.ensures a m f.sizes.now edge kernel are.sizes) (c.in_ok-given.ensures m edge))
