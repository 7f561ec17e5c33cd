-- Proofs of `with_blocks` of `main`, src/statement.rt.
use Rattle.std.proofs.Common.{ap, sym, ◌∙◌}
use Rattle.typed_tree.specs.BlockTree.{block_tree}
use Rattle.typed_tree.proofs.Blocks.{statement_kind_tree-While, statement_kind_tree-If, statement_kind_tree-IfElse, statement_kind_tree-For}
use Rattle.types.specs.inside.Block.{main_compound}
use Rattle.types.specs.inside.BlockMeaning.{compound_tree}
use Rattle.types.proofs.statement.MainBlockBlockKind.with_blocks.Goals as goal

pub returns-in-While : goal.returns-in-While
returns-in-While c =
    statement_kind_tree-While c.in-While.test c.in-While.body ∙ ap (λ x. main_compound (compound_tree block_tree x)) (sym c.in-While.is)

pub returns-in-If : goal.returns-in-If
returns-in-If c = statement_kind_tree-If c.in-If.test c.in-If.body ∙ ap (λ x. main_compound (compound_tree block_tree x)) (sym c.in-If.is)

pub returns-in-IfElse : goal.returns-in-IfElse
returns-in-IfElse c =
    statement_kind_tree-IfElse c.in-IfElse.test c.in-IfElse.body c.in-IfElse.other ∙ ap (λ x. main_compound (compound_tree block_tree x)) (sym c.in-IfElse.is)

pub returns-in-For : goal.returns-in-For
returns-in-For c =
    statement_kind_tree-For c.in-For.name c.in-For.first c.in-For.limit c.in-For.body ∙ ap (λ x. main_compound (compound_tree block_tree x)) (sym c.in-For.is)
