-- Proofs of `nothing`, src/function.rt.
use Rattle.std.proofs.Common.{false, ap, ◌∙◌}
use Rattle.typed_tree.specs.declared.expression.BoolExpression.TheVariants as condition
use Rattle.typed_tree.specs.BoolExpressionTree.{Literal}
use Rattle.typed_tree.specs.FunctionStatementTree.{If, function_statements_tree}
use Rattle.typed_tree.proofs.Steps.{function_statement_tree-If}
use Rattle.types.proofs.function.nothing.Goals as goal

pub returns : goal.returns
returns c = function_statement_tree-If (condition.Literal false) c.new.result ∙ ap (λ xs. If (Literal false) (function_statements_tree xs)) c.new.ensures.items
