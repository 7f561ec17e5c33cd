-- What is after the first operand of a row of operands.
use Rattle.std.specs.Prelude.{ℕ, zero, suc, List, [], ◌∷◌, ◌++◌}
use Rattle.typed_tree.specs.declared.expression.Connective.{Connective}
use Rattle.typed_tree.specs.declared.expression.Operand.{Operand}
use Rattle.typed_tree.specs.declared.expression.BoolExpression.{BoolExpression}
use Rattle.typed_tree.specs.IntExpressionTree.{int_expression_tree}
use Rattle.typed_tree.specs.BoolExpressionTree.{bool_expression_tree}
use Rattle.typed_tree.specs.ProgramTree.{ProgramTree}
use Rattle.plan_text.specs.Expressions.{integer_words, condition_words, operator_word, connective_word}

abbrev pub operand_words : ProgramTree → List Operand → List (List ℕ)
operand_words p [] = []
operand_words p (o ∷ os) = integer_words p (int_expression_tree o.integer) ++ operator_word o.operator ∷ operand_words p os

abbrev pub connected_words : ProgramTree → Connective → List BoolExpression → List (List ℕ)
connected_words p connective [] = []
connected_words p connective (c ∷ cs) = condition_words p (bool_expression_tree c) ++ connective_word connective ∷ connected_words p connective cs

-- a word so many times
abbrev pub times : ℕ → List ℕ → List (List ℕ)
times zero w = []
times (suc n) w = w ∷ times n w
