-- Views of operand rows.
use Rattle.typed_tree.specs.IntExpressionTree.{int_expression_tree}
use Rattle.typed_tree.specs.inside.IntExpressionTree.{operands_tree}
use Rattle.typed_tree.specs.declared.expression.Connective.{Connective}
use Rattle.typed_tree.specs.BoolExpressionTree.{bool_expression_tree}
use Rattle.typed_tree.specs.inside.BoolExpressionTree.{conditions_tree}
use Rattle.expression_types.specs.Operators.{IntegersTree, Integers, MixedIntegers, ErrorIntegers, ConditionsTree, Conditions, MixedConditions, ErrorConditions}
use Rattle.expression_types.specs.declared.operands.Integers as integers
use Rattle.expression_types.specs.declared.operands.Integers.TheVariants as some_integers
use Rattle.expression_types.specs.declared.operands.Conditions as conditions
use Rattle.expression_types.specs.declared.operands.Conditions.TheVariants as some_conditions

abbrev pub integers_of : integers.Integers → IntegersTree
integers_of (some_integers.Typed first more) = Integers (operands_tree (int_expression_tree first) more.items)
integers_of some_integers.Mixed = MixedIntegers
integers_of some_integers.Error = ErrorIntegers

abbrev pub conditions_of : Connective → conditions.Conditions → ConditionsTree
conditions_of o (some_conditions.Typed first more) = Conditions (conditions_tree o (bool_expression_tree first) more.items)
conditions_of o some_conditions.Mixed = MixedConditions
conditions_of o some_conditions.Error = ErrorConditions
