-- The words of expressions that are rows of signs or lists of operands.
use Rattle.std.proofs.Common.{rules, ◌≡◌, ◌≢◌, ℕ, zero, suc, List, [], ◌∷◌, ◌++◌, codes, sym, ◌∙◌, ap, append_assoc, append-nil}
use Rattle.typed_tree.specs.declared.expression.Connective.{Connective}
use Rattle.typed_tree.specs.declared.expression.Operand.{Operand}
use Rattle.typed_tree.specs.declared.expression.BoolExpression.{BoolExpression}
use Rattle.typed_tree.specs.IntExpressionTree as integer
use Rattle.typed_tree.specs.IntExpressionTree.{IntExpressionTree, negated, int_expression_tree}
use Rattle.typed_tree.specs.inside.IntExpressionTree.{operands_tree}
use Rattle.typed_tree.specs.BoolExpressionTree as condition
use Rattle.typed_tree.specs.BoolExpressionTree.{BoolExpressionTree, inverted, bool_expression_tree}
use Rattle.typed_tree.specs.inside.BoolExpressionTree.{conditions_tree}
use Rattle.typed_tree.specs.ProgramTree.{ProgramTree}
use Rattle.std.specs.Global.{Box}
use Rattle.typed_tree.specs.declared.expression.IntExpression.{IntExpression}
use Rattle.typed_tree.specs.declared.expression.IntExpression.TheViews as integer_views
use Rattle.typed_tree.specs.declared.expression.IntExpression.TheViews.{the_lemmas}
use Rattle.typed_tree.specs.declared.expression.BoolExpression.TheViews as condition_views
use Rattle.typed_tree.specs.declared.expression.BoolExpression.TheViews.{the_lemmas as the_condition_lemmas}
use Rattle.plan_text.specs.Expressions.{integer_words, condition_words, operator_word, connective_word, entry_word, comparison_word}
use Rattle.plan_text.specs.inside.Rows.{operand_words, connected_words, times}
use Rattle.plan_text.proofs.Spaces.{absurd_cons, after_some, times_suc}

pub words_negated : (p : ProgramTree) (signs : ℕ) (e : IntExpressionTree) → integer_words p (negated signs e) ≡ integer_words p e ++ times signs (codes "neg")
words_negated p zero e = sym (append-nil (integer_words p e))
words_negated p (suc n) e =
    ap (λ ws. ws ++ codes "neg" ∷ []) (words_negated p n e)
    ∙ append_assoc (integer_words p e) (times n (codes "neg")) (codes "neg" ∷ [])
    ∙ ap (λ ws. integer_words p e ++ ws) (sym (times_suc n (codes "neg")))

pub words_inverted : (p : ProgramTree) (nots : ℕ) (c : BoolExpressionTree) → condition_words p (inverted nots c) ≡ condition_words p c ++ times nots (codes "not")
words_inverted p zero c = sym (append-nil (condition_words p c))
words_inverted p (suc n) c =
    ap (λ ws. ws ++ codes "not" ∷ []) (words_inverted p n c)
    ∙ append_assoc (condition_words p c) (times n (codes "not")) (codes "not" ∷ [])
    ∙ ap (λ ws. condition_words p c ++ ws) (sym (times_suc n (codes "not")))

pub words_operands : (p : ProgramTree) (left : IntExpressionTree) (operands : List Operand) → integer_words p (operands_tree left operands) ≡ integer_words p left ++ operand_words p operands
words_operands p left [] = sym (append-nil (integer_words p left))
words_operands p left (o ∷ os) =
    words_operands p (integer.Arithmetic o.operator left (int_expression_tree o.integer)) os
    ∙ append_assoc (integer_words p left ++ integer_words p (int_expression_tree o.integer)) (operator_word o.operator ∷ []) (operand_words p os)
    ∙ append_assoc (integer_words p left) (integer_words p (int_expression_tree o.integer)) (operator_word o.operator ∷ operand_words p os)

pub words_connected : (p : ProgramTree) (connective : Connective) (left : BoolExpressionTree) (conditions : List BoolExpression)
    → condition_words p (conditions_tree connective left conditions) ≡ condition_words p left ++ connected_words p connective conditions
words_connected p connective left [] = sym (append-nil (condition_words p left))
words_connected p connective left (c ∷ cs) =
    words_connected p connective (condition.Connect connective left (bool_expression_tree c)) cs
    ∙ append_assoc (condition_words p left ++ condition_words p (bool_expression_tree c)) (connective_word connective ∷ []) (connected_words p connective cs)
    ∙ append_assoc (condition_words p left) (condition_words p (bool_expression_tree c)) (connective_word connective ∷ connected_words p connective cs)

-- an expression has a word
pub integer_words_some : (p : ProgramTree) (e : IntExpressionTree) → integer_words p e ≢ []
integer_words_some p (integer.Number n) = absurd_cons _ []
integer_words_some p (integer.Constant name n) = absurd_cons _ []
integer_words_some p (integer.Variable slot) = absurd_cons _ []
integer_words_some p (integer.Parameter at) = absurd_cons _ []
integer_words_some p integer.Weight = absurd_cons _ []
integer_words_some p (integer.EntryAt vector at) = absurd_cons _ []
integer_words_some p (integer.Entry vector index) = after_some (integer_words p index) (entry_word p vector) []
integer_words_some p (integer.SetSize slot) = absurd_cons _ []
integer_words_some p (integer.Negative e) = after_some (integer_words p e) (codes "neg") []
integer_words_some p (integer.Arithmetic operator a b) = after_some (integer_words p a ++ integer_words p b) (operator_word operator) []

pub condition_words_some : (p : ProgramTree) (c : BoolExpressionTree) → condition_words p c ≢ []
condition_words_some p (condition.Literal b) = absurd_cons _ []
condition_words_some p (condition.Constant name b) = absurd_cons _ []
condition_words_some p (condition.Variable slot) = absurd_cons _ []
condition_words_some p (condition.Not c) = after_some (condition_words p c) (codes "not") []
condition_words_some p (condition.Compare comparison a b) = after_some (integer_words p a ++ integer_words p b) (comparison_word comparison) []
condition_words_some p (condition.Connect connective a b) = after_some (condition_words p a ++ condition_words p b) (connective_word connective) []

-- the trees of expressions
pub int_expression_tree-Entry : (vector : ℕ) (index : Box IntExpression) → int_expression_tree (integer_views.Entry vector index) ≡ integer.Entry vector (int_expression_tree index.value)
int_expression_tree-Entry vector index = search (rules, the_lemmas)

pub int_expression_tree-Negative : (signs : ℕ) (e : Box IntExpression) → int_expression_tree (integer_views.Negative signs e) ≡ negated signs (int_expression_tree e.value)
int_expression_tree-Negative signs e = search (rules, the_lemmas)

pub bool_expression_tree-Not : (nots : ℕ) (c : Box BoolExpression) → bool_expression_tree (condition_views.Not nots c) ≡ inverted nots (bool_expression_tree c.value)
bool_expression_tree-Not nots c = search (rules, the_condition_lemmas)
