-- Operands in a row.
use Rattle.std.proofs.Common.{◌≡◌, ap, sym, ◌∙◌, ℕ, Option, Some}
use Rattle.std.specs.Global.{Box, Vec}
use Rattle.typed_tree.specs.declared.expression.ComparisonOperator.{ComparisonOperator}
use Rattle.typed_tree.specs.declared.expression.BoolExpression.{BoolExpression}
use Rattle.typed_tree.specs.declared.expression.BoolExpression.TheViews as condition_views
use Rattle.typed_tree.specs.declared.expression.Connective.{Connective}
use Rattle.typed_tree.specs.declared.expression.IntExpression.{IntExpression}
use Rattle.typed_tree.specs.declared.expression.IntExpression.TheViews as integer_views
use Rattle.typed_tree.specs.declared.expression.Operand.{Operand}
use Rattle.typed_tree.specs.BoolExpressionTree.{BoolExpressionTree, Connect, bool_expression_tree}
use Rattle.typed_tree.specs.inside.BoolExpressionTree.{conditions_tree}
use Rattle.typed_tree.specs.IntExpressionTree.{int_expression_tree}
use Rattle.typed_tree.specs.inside.IntExpressionTree.{operands_tree}
use Rattle.typed_tree.proofs.Chains.{int_expression_tree-Arithmetic, bool_expression_tree-Connect}
use Rattle.expression_types.specs.declared.fault.Fault.{Fault}
use Rattle.expression_types.specs.Faults.{outcome}
use Rattle.expression_types.specs.Operators.{IntegersTree, Integers, ConditionsTree, Conditions, first_condition, grouped_integers, grouped_conditions, equated, equated_value}
use Rattle.expression_types.specs.ValueTree as value
use Rattle.expression_types.specs.ValueTree.{ValueTree, as_condition}

pub integers_grouped : (at : ℕ) (first_fault : Option Fault) (all : IntegersTree) (first : IntExpression) (more : Vec Operand) (boxed : Box IntExpression)
    → all ≡ Integers (operands_tree (int_expression_tree first) more.items) → boxed.value ≡ first
    → outcome first_fault (grouped_integers at all) ≡ (value.Integer (int_expression_tree (integer_views.Arithmetic boxed more)), first_fault)
integers_grouped at first_fault all first more boxed is same =
    ap (λ a. outcome first_fault (grouped_integers at a)) is
    ∙ ap (λ e. (value.Integer e, first_fault)) (sym (int_expression_tree-Arithmetic boxed more ∙ ap (λ e. operands_tree (int_expression_tree e) more.items) same))

pub conditions_grouped : (connective : Connective) (at : ℕ) (first_fault : Option Fault) (all : ConditionsTree) (first : BoolExpression) (more : Vec BoolExpression) (boxed : Box BoolExpression)
    → all ≡ Conditions (conditions_tree connective (bool_expression_tree first) more.items) → boxed.value ≡ first
    → outcome first_fault (grouped_conditions at all) ≡ (value.Condition (bool_expression_tree (condition_views.Connect connective boxed more)), first_fault)
conditions_grouped connective at first_fault all first more boxed is same =
    ap (λ a. outcome first_fault (grouped_conditions at a)) is
    ∙ ap (λ c. (value.Condition c, first_fault)) (sym (bool_expression_tree-Connect connective boxed more ∙ ap (λ c. conditions_tree connective (bool_expression_tree c) more.items) same))

pub first_is_condition : (v : ValueTree) (c : BoolExpressionTree) → Some c ≡ as_condition v → first_condition v ≡ Conditions c
first_is_condition (value.Integer e) c is = cc
first_is_condition (value.Condition d) c is = cc
first_is_condition (value.Vertex at) c is = cc
first_is_condition (value.Set slot) c is = cc
first_is_condition value.ErrorValue c is = cc

pub conditions_equated : (o : Connective) (p : ComparisonOperator) (left right : ValueTree) (a b : BoolExpressionTree) → Some a ≡ as_condition left → Some b ≡ as_condition right
    → equated_value o p left right ≡ Some (value.Condition (Connect o a b))
conditions_equated o p (value.Integer e) right a b is is' = cc
conditions_equated o p (value.Condition c) right a b is is' =
    ap (equated o (Conditions c)) (first_is_condition right b is') ∙ ap (λ c. Some (value.Condition (Connect o c b))) (let h : c ≡ a = cc in h)
conditions_equated o p (value.Vertex at) right a b is is' = cc
conditions_equated o p (value.Set slot) right a b is is' = cc
conditions_equated o p value.ErrorValue right a b is is' = cc
