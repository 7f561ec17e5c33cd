-- Proofs of `equate`, src/operators.rt.
use Rattle.std.proofs.Common.{ap, sym, ◌∙◌, [], ◌∷◌, ◌++◌, Some}
use Rattle.typed_tree.specs.BoolExpressionTree.{bool_expression_tree}
use Rattle.typed_tree.specs.inside.BoolExpressionTree.{conditions_tree}
use Rattle.typed_tree.proofs.Chains.{bool_expression_tree-Connect}
use Rattle.expression_types.specs.ValueTree.{Condition, value_tree}
use Rattle.expression_types.proofs.OperandLaws.{conditions_equated}
use Rattle.expression_types.proofs.operators.equate.Goals as goal

pub returns : goal.returns
returns c =
    ap (λ d. Some (Condition d)) (bool_expression_tree-Connect c.args.connective c.in_ok-left.left c.push.new.self
    ∙ (λ i. conditions_tree c.args.connective (bool_expression_tree (c.in_ok-left.ensures.ok i))
    ((c.in_ok-push.ensures.items ∙ ap (λ others. others ++ c.in-Some-Some.right ∷ []) c.new-others.ensures.items) i)))
    ∙ sym (conditions_equated c.args.connective c.args.comparison (value_tree c.args.left) (value_tree c.args.right) (bool_expression_tree c.in-Some-Some.left)
    (bool_expression_tree c.in-Some-Some.right)
    c.in-Some-Some.ensures c.in-Some-Some.ensures')
