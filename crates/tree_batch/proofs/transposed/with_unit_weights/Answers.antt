-- Proofs of `with_unit_weights`, src/transposed.rt.
use Rattle.std.proofs.Common.{◌∙◌}
use Rattle.tree_batch.proofs.UnitWeights.{no_weights}
use Rattle.tree_batch.proofs.transposed.with_unit_weights.Goals as goal

pub returns : goal.returns
returns c = c.new.ensures ∙ no_weights c.args.updates.now
