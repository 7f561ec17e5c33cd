-- Proofs of `source_contribution`, src/source_contributions.rt.
use Rattle.std.proofs.Common.{rules, ◌≡◌, ℕ, ℤ, None, [], ◌∷◌}
use Rattle.std.proofs.lemmas.Option.{IfSome_then}
use Rattle.weighted_edges.specs.Edge.{Edge}
use Rattle.apply_options.specs.declared.reduction.Reduction.{Reduction}
use Rattle.kernels.specs.Meaning.{given_in}
use Rattle.edge_fold.proofs.ShapePairs.{one_given, shaped_given}
use Rattle.edge_fold.proofs.apply_context.ApplyContext.source_contribution.Goals as goal

pub returns : goal.returns
returns c =
    let f = c.args.self in
    let alone : f.second ≡ None = search rules in
    IfSome_then c.source_contribution_by.result c.source_contribution_by.ensures
    (λ contribution gives m steps are d w.
    let edge : Edge = (c.args.source, d, w) in
    let g : ℕ × Reduction × ℤ = (contribution.vector, contribution.reduction, contribution.number) in
    one_given f m steps edge (g ∷ []) are alone
    (λ a kernel. shaped_given c.shape.result m edge (given_in m a edge) g (c.shape.ensures a m f.sizes.now edge kernel are.sizes) (gives m are.vectors d w)))
