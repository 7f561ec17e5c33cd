-- Proofs of `beside`, src/operands.rt.
use Rattle.std.proofs.Common.{ap, sym, ◌∙◌}
use Rattle.typed_tree.specs.BoolExpressionTree.{bool_expression_tree}
use Rattle.typed_tree.specs.inside.BoolExpressionTree.{conditions_tree}
use Rattle.typed_tree.proofs.Chains.{conditions_tree_push}
use Rattle.expression_types.specs.inside.Operands.{conditions_of}
use Rattle.expression_types.specs.Operators.{Conditions, beside_condition, first_condition}
use Rattle.expression_types.specs.ValueTree.{value_tree}
use Rattle.expression_types.proofs.OperandLaws.{first_is_condition}
use Rattle.expression_types.proofs.operands.Conditions.beside.Goals as goal

pub returns-in_ok-push-in-Some : goal.returns-in_ok-push-in-Some
returns-in_ok-push-in-Some c o =
    let first = bool_expression_tree c.in-Typed.first in
    let all = conditions_tree o first c.in-Typed.more.items in
    ap Conditions (ap (conditions_tree o first) c.in_ok-push-in-Some.ensures.items ∙ conditions_tree_push o first c.in-Typed.more.items c.in-Some.c)
    ∙ sym (ap (λ s. beside_condition o (conditions_of o s) (first_condition (value_tree c.args.value))) c.in-Typed.is
    ∙ ap (beside_condition o (Conditions all)) (first_is_condition (value_tree c.args.value) (bool_expression_tree c.in-Some.c) c.in-Some.ensures))
