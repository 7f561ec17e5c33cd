-- Proofs of `fill_weights`, src/weight_blocks.rt.
use Rattle.std.proofs.Common.{length, drop, ◌∙◌}
use Rattle.pages.proofs.Weighing.{ones_filled}
use Rattle.pages.proofs.weight_blocks.fill_weights.Goals as goal

pub returns-in-Ones : goal.returns-in-Ones
returns-in-Ones c = rw c.in-Ones.is (c.fill_ones.ensures ∙ ones_filled (length c.args.block.now) (drop c.args.start c.args.bytes.now))
