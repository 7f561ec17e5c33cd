-- Proofs of `with_blocks` of functions, src/function.rt.
use Rattle.std.proofs.Common.{ap, sym, ◌∙◌}
use Rattle.typed_tree.specs.FunctionStatementTree.{function_statements_tree}
use Rattle.typed_tree.proofs.Steps.{function_statement_tree-If, function_statement_tree-IfElse}
use Rattle.types.specs.inside.BlockMeaning.{compound_tree}
use Rattle.types.specs.inside.Step.{function_compound}
use Rattle.types.proofs.function.FunctionBlockBlockKind.with_blocks.Goals as goal

pub returns-in-If : goal.returns-in-If
returns-in-If c = function_statement_tree-If c.in-If.test c.in-If.body ∙ ap (λ x. function_compound (compound_tree function_statements_tree x)) (sym c.in-If.is)

pub returns-in-IfElse : goal.returns-in-IfElse
returns-in-IfElse c =
    function_statement_tree-IfElse c.in-IfElse.test c.in-IfElse.body c.in-IfElse.other ∙ ap (λ x. function_compound (compound_tree function_statements_tree x)) (sym c.in-IfElse.is)
