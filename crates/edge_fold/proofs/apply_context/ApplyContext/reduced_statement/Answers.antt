-- Proofs of `reduced_statement`, src/statements.rt.
use Rattle.std.proofs.lemmas.Option.{IfSome_then}
use Rattle.kernels.specs.ShapePairs.{shape_given}
use Rattle.edge_fold.proofs.ShapePairs.{of_sources}
use Rattle.edge_fold.proofs.apply_context.ApplyContext.reduced_statement.Goals as goal

pub returns-in-Some : goal.returns-in-Some
returns-in-Some c m vectors = of_sources c.in-Some.contribution (shape_given c.args.shape m) c.args.sources.now c.args.weights.now (c.in-Some.ensures m vectors)

pub returns : goal.returns
returns c = IfSome_then c.weighed_by.result c.weighed_by.ensures (λ s is m vectors. is m (shape_given c.args.shape m) vectors (c.in_ok-given.ensures m))
