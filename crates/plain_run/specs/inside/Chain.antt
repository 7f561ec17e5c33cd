-- What a row of signs and a list of operands do to what is before them.
use Rattle.std.specs.Prelude.{ℕ, zero, suc, ℤ, Bool, true, not, ◌&&◌, List, [], ◌∷◌}
use Rattle.typed_tree.specs.declared.expression.Connective.{Connective}
use Rattle.typed_tree.specs.declared.expression.Operand.{Operand}
use Rattle.typed_tree.specs.declared.expression.BoolExpression.{BoolExpression}
use Rattle.typed_tree.specs.IntExpressionTree.{int_expression_tree}
use Rattle.typed_tree.specs.BoolExpressionTree.{bool_expression_tree}
use Rattle.algorithm_meaning.specs.declared.state.SetBinding.{SetBinding}
use Rattle.algorithm_meaning.specs.Arithmetic.{negative, arithmetic, connected}
use Rattle.algorithm_meaning.specs.State.{ScopeValue}
use Rattle.algorithm_meaning.specs.Value.{value, truth, stays_inside, condition_stays_inside}

abbrev pub negative_times : ℕ → ℤ → ℤ
negative_times zero n = n
negative_times (suc signs) n = negative (negative_times signs n)

abbrev pub not_times : ℕ → Bool → Bool
not_times zero b = b
not_times (suc turns) b = not (not_times turns b)

abbrev pub operands_value : List (List ℤ) → List SetBinding → ScopeValue → ℤ → List Operand → ℤ
operands_value vectors sets scope left [] = left
operands_value vectors sets scope left (o ∷ os) =
    operands_value vectors sets scope (arithmetic o.operator left (value vectors sets scope (int_expression_tree o.integer))) os

abbrev pub conditions_truth : List (List ℤ) → List SetBinding → ScopeValue → Connective → Bool → List BoolExpression → Bool
conditions_truth vectors sets scope connective left [] = left
conditions_truth vectors sets scope connective left (c ∷ cs) =
    conditions_truth vectors sets scope connective (connected connective left (truth vectors sets scope (bool_expression_tree c))) cs

abbrev pub operands_stay_inside : ℕ → List (List ℤ) → List SetBinding → ScopeValue → List Operand → Bool
operands_stay_inside vertices vectors sets scope [] = true
operands_stay_inside vertices vectors sets scope (o ∷ os) =
    stays_inside vertices vectors sets scope (int_expression_tree o.integer) && operands_stay_inside vertices vectors sets scope os

abbrev pub conditions_stay_inside : ℕ → List (List ℤ) → List SetBinding → ScopeValue → List BoolExpression → Bool
conditions_stay_inside vertices vectors sets scope [] = true
conditions_stay_inside vertices vectors sets scope (c ∷ cs) =
    condition_stays_inside vertices vectors sets scope (bool_expression_tree c) && conditions_stay_inside vertices vectors sets scope cs
