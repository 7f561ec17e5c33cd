-- Proofs of `reduced_pair`, src/statements.rt.
use Rattle.kernels.specs.ShapePairs.{shape_given}
use Rattle.edge_fold.proofs.apply_context.ApplyContext.reduced_pair.Goals as goal

pub returns : goal.returns
returns c m steps are =
    let pair = c.in_ok-pair.pair in
    record {
      first = shape_given pair.first m;
      second = shape_given pair.second m;
      each = c.in_ok-pair.ensures m steps are;
      of_first = c.in_ok-first.ensures m are.vectors;
      of_second = c.in_ok-second.ensures m are.vectors;
    }
