-- Proofs of `len`, src/batch_columns.rt.
use Rattle.std.proofs.Common.{length, ap, arith}
use Rattle.tree_batch.specs.inside.Weights.{weights_in}
use Rattle.tree_batch.proofs.BatchColumns.{columns_length}
use Rattle.tree_batch.proofs.batch_columns.BatchColumns.len.Goals as goal

pub returns : goal.returns
returns c =
    omega (arith, c.len.ensures, columns_length 0 c.self.inside.numbers.items c.self.inside.kinds.items (weights_in c.self.inside.weights), ap length c.self.view_is)
