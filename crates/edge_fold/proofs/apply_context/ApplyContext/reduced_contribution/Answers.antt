-- Proofs of `reduced_contribution`, src/reduced_contributions.rt.
use Rattle.std.proofs.Common.{rules, ◌≡◌, ℕ, ℤ, None, [], ◌∷◌}
use Rattle.apply_options.specs.declared.reduction.Reduction.{Reduction}
use Rattle.kernels.specs.Meaning.{given_in}
use Rattle.edge_fold.proofs.ShapePairs.{one_given, shaped_given}
use Rattle.edge_fold.proofs.apply_context.ApplyContext.reduced_contribution.Goals as goal

pub returns : goal.returns
returns c m steps are =
    let f = c.args.self in
    let alone : f.second ≡ None = search rules in
    let contribution = c.in_ok-contribution.contribution in
    let is = c.in_ok-contribution.ensures m are.vectors in
    let given = λ (s : ℕ). (let g : ℕ × Reduction × ℤ = (contribution.vector, contribution.reduction, is.number s) in g) in
    record {
      number = is.number;
      each = λ s d w. one_given f m steps (s, d, w) (given s ∷ []) are alone
          (λ a kernel. shaped_given c.shape.result m (s, d, w) (given_in m a (s, d, w)) (given s) (c.shape.ensures a m f.sizes.now (s, d, w) kernel are.sizes) (is.each s d w));
      all = is.all;
    }
