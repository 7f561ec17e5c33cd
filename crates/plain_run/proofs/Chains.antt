-- The values of expressions that are rows of signs or lists of operands.
use Rattle.std.proofs.Common.{◌≡◌, ℕ, zero, suc, ℤ, Bool, true, false, not, ◌&&◌, List, [], ◌∷◌, ap, ◌∙◌, refl}
use Rattle.typed_tree.specs.declared.expression.Connective.{Connective}
use Rattle.typed_tree.specs.declared.expression.Operand.{Operand}
use Rattle.typed_tree.specs.declared.expression.BoolExpression.{BoolExpression}
use Rattle.typed_tree.specs.IntExpressionTree.{IntExpressionTree, Arithmetic, negated, int_expression_tree}
use Rattle.typed_tree.specs.inside.IntExpressionTree.{operands_tree}
use Rattle.typed_tree.specs.BoolExpressionTree.{BoolExpressionTree, Connect, inverted, bool_expression_tree}
use Rattle.typed_tree.specs.inside.BoolExpressionTree.{conditions_tree}
use Rattle.algorithm_meaning.specs.declared.state.SetBinding.{SetBinding}
use Rattle.algorithm_meaning.specs.Arithmetic.{negative}
use Rattle.algorithm_meaning.specs.State.{ScopeValue}
use Rattle.algorithm_meaning.specs.Value.{value, truth, stays_inside, condition_stays_inside}
use Rattle.plain_run.specs.inside.Chain.{negative_times, not_times, operands_value, conditions_truth, operands_stay_inside, conditions_stay_inside}

pub value_negated : (vectors : List (List ℤ)) (sets : List SetBinding) (scope : ScopeValue) (signs : ℕ) (e : IntExpressionTree)
    → negative_times signs (value vectors sets scope e) ≡ value vectors sets scope (negated signs e)
value_negated vectors sets scope zero e = refl
value_negated vectors sets scope (suc n) e = ap negative (value_negated vectors sets scope n e)

pub value-operands : (vectors : List (List ℤ)) (sets : List SetBinding) (scope : ScopeValue) (left : IntExpressionTree) (operands : List Operand)
    → operands_value vectors sets scope (value vectors sets scope left) operands ≡ value vectors sets scope (operands_tree left operands)
value-operands vectors sets scope left [] = refl
value-operands vectors sets scope left (o ∷ os) = value-operands vectors sets scope (Arithmetic o.operator left (int_expression_tree o.integer)) os

pub truth_inverted : (vectors : List (List ℤ)) (sets : List SetBinding) (scope : ScopeValue) (nots : ℕ) (c : BoolExpressionTree)
    → not_times nots (truth vectors sets scope c) ≡ truth vectors sets scope (inverted nots c)
truth_inverted vectors sets scope zero c = refl
truth_inverted vectors sets scope (suc n) c = ap not (truth_inverted vectors sets scope n c)

pub truth-conditions : (vectors : List (List ℤ)) (sets : List SetBinding) (scope : ScopeValue) (connective : Connective) (left : BoolExpressionTree) (conditions : List BoolExpression)
    → conditions_truth vectors sets scope connective (truth vectors sets scope left) conditions ≡ truth vectors sets scope (conditions_tree connective left conditions)
truth-conditions vectors sets scope connective left [] = refl
truth-conditions vectors sets scope connective left (c ∷ cs) = truth-conditions vectors sets scope connective (Connect connective left (bool_expression_tree c)) cs

pub inside_negated : (vertices : ℕ) (vectors : List (List ℤ)) (sets : List SetBinding) (scope : ScopeValue) (signs : ℕ) (e : IntExpressionTree)
    → stays_inside vertices vectors sets scope e ≡ stays_inside vertices vectors sets scope (negated signs e)
inside_negated vertices vectors sets scope zero e = refl
inside_negated vertices vectors sets scope (suc n) e = inside_negated vertices vectors sets scope n e

pub inside_inverted : (vertices : ℕ) (vectors : List (List ℤ)) (sets : List SetBinding) (scope : ScopeValue) (nots : ℕ) (c : BoolExpressionTree)
    → condition_stays_inside vertices vectors sets scope c ≡ condition_stays_inside vertices vectors sets scope (inverted nots c)
inside_inverted vertices vectors sets scope zero c = refl
inside_inverted vertices vectors sets scope (suc n) c = inside_inverted vertices vectors sets scope n c

and_true : (b : Bool) → b && true ≡ b
and_true true = refl
and_true false = refl

and_assoc : (a b c : Bool) → a && (b && c) ≡ (a && b) && c
and_assoc true b c = refl
and_assoc false b c = refl

pub inside-operands : (vertices : ℕ) (vectors : List (List ℤ)) (sets : List SetBinding) (scope : ScopeValue) (left : IntExpressionTree) (operands : List Operand)
    → stays_inside vertices vectors sets scope left && operands_stay_inside vertices vectors sets scope operands ≡ stays_inside vertices vectors sets scope (operands_tree left operands)
inside-operands vertices vectors sets scope left [] = and_true (stays_inside vertices vectors sets scope left)
inside-operands vertices vectors sets scope left (o ∷ os) =
    and_assoc (stays_inside vertices vectors sets scope left) (stays_inside vertices vectors sets scope (int_expression_tree o.integer)) (operands_stay_inside vertices vectors sets scope os)
    ∙ inside-operands vertices vectors sets scope (Arithmetic o.operator left (int_expression_tree o.integer)) os

pub inside-conditions : (vertices : ℕ) (vectors : List (List ℤ)) (sets : List SetBinding) (scope : ScopeValue) (connective : Connective) (left : BoolExpressionTree) (conditions : List BoolExpression)
    → condition_stays_inside vertices vectors sets scope left && conditions_stay_inside vertices vectors sets scope conditions ≡ condition_stays_inside vertices vectors sets scope
    (conditions_tree connective left conditions)
inside-conditions vertices vectors sets scope connective left [] = and_true (condition_stays_inside vertices vectors sets scope left)
inside-conditions vertices vectors sets scope connective left (c ∷ cs) =
    and_assoc (condition_stays_inside vertices vectors sets scope left) (condition_stays_inside vertices vectors sets scope (bool_expression_tree c))
    (conditions_stay_inside vertices vectors sets scope cs)
    ∙ inside-conditions vertices vectors sets scope connective (Connect connective left (bool_expression_tree c)) cs
