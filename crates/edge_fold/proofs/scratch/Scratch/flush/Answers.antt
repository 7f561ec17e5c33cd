-- Proofs of `flush`, src/scratch.rt.
use Rattle.std.proofs.Common.{ℕ, ℤ, List, ap, ◌∙◌}
use Rattle.weighted_edges.specs.Edge.{Edge}
use Rattle.edge_fold.specs.FoldStarts.{combined_with_seed, first_entry}
use Rattle.edge_fold.specs.Contributions.{all_given, given_on, reduced_at}
use Rattle.edge_fold.specs.VectorAccumulators.{active, held_in_with}
use Rattle.edge_fold.proofs.scratch.Scratch.flush.Goals as goal

pub returns-clause-folded : goal.returns-clause-folded
returns-clause-folded c m steps edges are has x r by =
    let f = c.args.context in
    let joined = c.in_ok-run_functions.ensures m steps are x r by in
    let was = has x r by in
    let n = λ (v : ℕ) (h : ℤ). held_in_with (combined_with_seed f.start r) (active c.args.self.now.slots) x v (first_entry f x v h) in
    record {
      entries = λ v h l. joined.entries v h ∙ ap (λ (es : List Edge). reduced_at r v (n v h) (given_on x (all_given m steps) es)) c.columns-columns.ensures ∙ was.entries v h l;
      reduction = joined.reduction was.reduction;
    }
