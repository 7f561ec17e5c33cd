-- Proofs of `integer`, src/wanted.rt.
use Rattle.std.proofs.Common.{◌∙◌}
use Rattle.expression_types.specs.Expression.{value_of}
use Rattle.expression_types.specs.ValueTree.{value_tree}
use Rattle.expression_types.proofs.Steps.{outcome_then}
use Rattle.initializer_types.specs.Checker.{integer_wanted}
use Rattle.initializer_types.proofs.wanted.integer.Goals as goal

pub returns : goal.returns
returns c =
    outcome_then c.args.first_fault.now c.type_expression.new.first_fault (value_of c.args.scope.now c.args.at c.args.expression.now) (value_tree c.in_ok-value.value)
    (integer_wanted c.args.at) c.in_ok-value.ensures ∙ c.integer_of.ensures
