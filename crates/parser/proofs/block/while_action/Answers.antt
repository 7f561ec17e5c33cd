-- Proofs of `while_action`, src/block.rt.
use Rattle.parser.proofs.BlockLaws.{statement_kind_tree-While}
use Rattle.parser.proofs.block.while_action.Goals as goal

pub returns : goal.returns
returns c = statement_kind_tree-While c.args.at c.args.test c.args.body
