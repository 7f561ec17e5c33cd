-- Proofs of `if_action`, src/block.rt.
use Rattle.parser.proofs.BlockLaws.{statement_kind_tree-If}
use Rattle.parser.proofs.block.if_action.Goals as goal

pub returns : goal.returns
returns c = statement_kind_tree-If c.args.at c.args.test c.args.body
