-- Proofs of `if_else_action`, src/block.rt.
use Rattle.parser.proofs.BlockLaws.{statement_kind_tree-IfElse}
use Rattle.parser.proofs.block.if_else_action.Goals as goal

pub returns : goal.returns
returns c = statement_kind_tree-IfElse c.args.at c.args.test c.args.body c.args.otherwise
