use Rattle.std.proofs.Common.{◌≡◌, drop}
use Rattle.syntax.specs.inside.ExpressionViews.{conjunction_of, sum_of, term_of}
use Rattle.typed_tree.specs.declared.expression.Connective.TheVariants as connective
use Rattle.expression_types.specs.Expression.{conjunction_value, sum_value, term_value, value_of}
use Rattle.expression_types.specs.Faults.{outcome, ◌>>=◌}
use Rattle.expression_types.specs.inside.Operands.{conditions_of, integers_of}
use Rattle.expression_types.specs.Operators.{grouped_conditions, grouped_integers}
use Rattle.expression_types.proofs.Levels.{expression_step, conjunction_step, sum_step, term_step}
use Rattle.expression_types.proofs.Steps.{row}
use Rattle.expression_types.proofs.expression.+types.Given as goal

-- what the operands so far and those that are left come to is what the whole does
abbrev pub invariant-type_expression-operands : goal.invariant-type_expression-operands
invariant-type_expression-operands l =
    outcome l.fn.first_fault (value_of l.scope l.at l.expression)
    ≡ outcome l.first_fault (row (expression_step l.scope l.at) (conditions_of connective.Or l.operands) (drop l.operand-index l.operand-items) >>= grouped_conditions l.at)

abbrev pub invariant-conjunction-operands : goal.invariant-conjunction-operands
invariant-conjunction-operands l =
    outcome l.fn.first_fault (conjunction_value l.scope l.at (conjunction_of l.conjunction))
    ≡ outcome l.first_fault (row (conjunction_step l.scope l.at) (conditions_of connective.And l.operands) (drop l.operand-index l.conjunction.more.items) >>= grouped_conditions l.at)

abbrev pub invariant-sum-operands : goal.invariant-sum-operands
invariant-sum-operands l =
    outcome l.fn.first_fault (sum_value l.scope l.at (sum_of l.sum))
    ≡ outcome l.first_fault (row (sum_step l.scope l.at) (integers_of l.operands) (drop l.operator-index l.sum.more.items) >>= grouped_integers l.at)

abbrev pub invariant-term-operands : goal.invariant-term-operands
invariant-term-operands l =
    outcome l.fn.first_fault (term_value l.scope l.at (term_of l.term))
    ≡ outcome l.first_fault (row (term_step l.scope l.at) (integers_of l.operands) (drop l.operator-index l.term.more.items) >>= grouped_integers l.at)
