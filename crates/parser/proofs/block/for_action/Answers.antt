-- Proofs of `for_action`, src/block.rt.
use Rattle.parser.proofs.BlockLaws.{for_loop_tree-rolled}
use Rattle.parser.proofs.block.for_action.Goals as goal

pub returns : goal.returns
returns c = for_loop_tree-rolled c.args.at c.args.name c.args.first c.args.limit c.args.body
