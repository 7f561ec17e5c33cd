-- Whether the accesses after signs, and of operands and conditions in a row, pass.
use Rattle.std.proofs.Common.{◌≡◌, refl, ◌∙◌, ℕ, zero, suc, true, false, Bool, ◌&&◌, List, [], ◌∷◌}
use Rattle.typed_tree.specs.declared.accesses.Access.{Access}
use Rattle.typed_tree.specs.declared.expression.Operand.{Operand}
use Rattle.typed_tree.specs.declared.expression.Connective.{Connective}
use Rattle.typed_tree.specs.declared.expression.BoolExpression.{BoolExpression}
use Rattle.typed_tree.specs.IntExpressionTree.{IntExpressionTree, Arithmetic, int_expression_tree, negated}
use Rattle.typed_tree.specs.inside.IntExpressionTree.{operands_tree}
use Rattle.typed_tree.specs.BoolExpressionTree.{BoolExpressionTree, Connect, bool_expression_tree, inverted}
use Rattle.typed_tree.specs.inside.BoolExpressionTree.{conditions_tree}
use Rattle.typed_tree.specs.Fold.{all_pass, condition_fold, conditions_fold, integer_fold, operands_fold}

and_true : (b : Bool) → b && true ≡ b
and_true true = refl
and_true false = refl

and_assoc : (a b c : Bool) → a && (b && c) ≡ (a && b) && c
and_assoc true b c = refl
and_assoc false b c = refl

module _ (passes : Access → Bool) where
  pub passes_negated : (signs : ℕ) (e : IntExpressionTree) → integer_fold (all_pass passes) e ≡ integer_fold (all_pass passes) (negated signs e)
  passes_negated zero e = refl
  passes_negated (suc n) e = passes_negated n e

  pub passes_inverted : (nots : ℕ) (c : BoolExpressionTree) → condition_fold (all_pass passes) c ≡ condition_fold (all_pass passes) (inverted nots c)
  passes_inverted zero c = refl
  passes_inverted (suc n) c = passes_inverted n c

  pub passes_operands : (left : IntExpressionTree) (operands : List Operand)
      → integer_fold (all_pass passes) left && operands_fold (all_pass passes) operands ≡ integer_fold (all_pass passes) (operands_tree left operands)
  passes_operands left [] = and_true (integer_fold (all_pass passes) left)
  passes_operands left (o ∷ os) =
      and_assoc (integer_fold (all_pass passes) left) (integer_fold (all_pass passes) (int_expression_tree o.integer)) (operands_fold (all_pass passes) os)
      ∙ passes_operands (Arithmetic o.operator left (int_expression_tree o.integer)) os

  pub passes_conditions : (connective : Connective) (left : BoolExpressionTree) (conditions : List BoolExpression)
      → condition_fold (all_pass passes) left && conditions_fold (all_pass passes) conditions ≡ condition_fold (all_pass passes) (conditions_tree connective left conditions)
  passes_conditions connective left [] = and_true (condition_fold (all_pass passes) left)
  passes_conditions connective left (c ∷ cs) =
      and_assoc (condition_fold (all_pass passes) left) (condition_fold (all_pass passes) (bool_expression_tree c)) (conditions_fold (all_pass passes) cs)
      ∙ passes_conditions connective (Connect connective left (bool_expression_tree c)) cs
