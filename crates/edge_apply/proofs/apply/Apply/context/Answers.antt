-- Proofs of `context`, src/apply.rt.
use Rattle.edge_apply.proofs.apply.Apply.context.Goals as goal

pub returns-clause-reads : goal.returns-clause-reads
returns-clause-reads c m steps are = record {
  vectors = are.vectors;
  sizes = are.sizes;
  kernels = are.kernels;
  weightless = λ off. c.reads_weights.ensures.weightless off m c.args.self.now.sizes.now steps are.sizes are.kernels;
}
