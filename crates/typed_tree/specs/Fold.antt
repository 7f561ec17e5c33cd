-- One walk over the expressions and statements of functions, which joins what their accesses give.
use Rattle.std.specs.Prelude.{ℕ, Bool, true, ◌&&◌, List, [], ◌∷◌, ◌++◌, Option, Some, None, slice_get}
use Rattle.typed_tree.specs.declared.accesses.Access.{Access}
use Rattle.typed_tree.specs.declared.accesses.Access.TheVariants.{ReadAtVertex, ReadAtIndex, ReadSet, Write}
use Rattle.typed_tree.specs.declared.expression.Operand.{Operand}
use Rattle.typed_tree.specs.declared.expression.BoolExpression.{BoolExpression}
use Rattle.typed_tree.specs.declared.statement.VertexFilter.{VertexFilter}
use Rattle.typed_tree.specs.declared.statement.VertexFilter.TheVariants as end
use Rattle.typed_tree.specs.IntExpressionTree.{IntExpressionTree, int_expression_tree}
use Rattle.typed_tree.specs.IntExpressionTree as integer
use Rattle.typed_tree.specs.BoolExpressionTree.{BoolExpressionTree, bool_expression_tree}
use Rattle.typed_tree.specs.BoolExpressionTree as condition
use Rattle.typed_tree.specs.FunctionStatementTree.{FunctionTree, FunctionStatementTree, FunctionStatementsTree, DeclareInt, DeclareBool, SetInt}
use Rattle.typed_tree.specs.FunctionStatementTree.{SetBool, ReduceInt, SetEntry, ReduceEntry, If, IfElse, NoStep, StepThen}

-- what a walk gives
pub record Fold (R : Type 0) : Type 0 where
  -- where there is no access
  pub none : R
  -- at an access
  pub access : Access → R
  -- of two parts, in the order of the text
  pub join : R → R → R
  -- of an expression in a statement, by what it gives alone
  pub expression : R → R

-- all that accesses give
abbrev pub gathered : (Access → List ℕ) → Fold (List ℕ)
gathered gives = record { none = []; access = gives; join = λ xs ys. xs ++ ys; expression = λ xs. xs }

-- whether each access passes
abbrev pub all_pass : (Access → Bool) → Fold Bool
all_pass passes = record { none = true; access = passes; join = λ a b. a && b; expression = λ a. a }

module _ {R : Type 0} (f : Fold R) where
  abbrev pub integer_fold : IntExpressionTree → R
  integer_fold (integer.Number n) = f.none
  integer_fold (integer.Constant name n) = f.none
  integer_fold (integer.Variable slot) = f.none
  integer_fold (integer.Parameter at) = f.none
  integer_fold integer.Weight = f.none
  integer_fold (integer.EntryAt vector at) = f.access (ReadAtVertex vector)
  integer_fold (integer.Entry vector subscript) = f.join (f.access (ReadAtIndex vector)) (integer_fold subscript)
  integer_fold (integer.SetSize slot) = f.access (ReadSet slot.index)
  integer_fold (integer.Negative e) = integer_fold e
  integer_fold (integer.Arithmetic operator a b) = f.join (integer_fold a) (integer_fold b)

  abbrev pub condition_fold : BoolExpressionTree → R
  condition_fold (condition.Literal b) = f.none
  condition_fold (condition.Constant name b) = f.none
  condition_fold (condition.Variable slot) = f.none
  condition_fold (condition.Not c) = condition_fold c
  condition_fold (condition.Compare comparison a b) = f.join (integer_fold a) (integer_fold b)
  condition_fold (condition.Connect connective a b) = f.join (condition_fold a) (condition_fold b)

  abbrev mutual
    pub step_fold : FunctionStatementTree → R
    step_fold (DeclareInt name e) = f.expression (integer_fold e)
    step_fold (DeclareBool name c) = f.expression (condition_fold c)
    step_fold (SetInt slot e) = f.expression (integer_fold e)
    step_fold (SetBool slot c) = f.expression (condition_fold c)
    step_fold (ReduceInt slot reduction e) = f.expression (integer_fold e)
    step_fold (SetEntry vector e) = f.join (f.access (Write vector)) (f.expression (integer_fold e))
    step_fold (ReduceEntry vector reduction e) = f.join (f.access (Write vector)) (f.expression (integer_fold e))
    step_fold (If c body) = f.join (f.expression (condition_fold c)) (steps_fold body)
    step_fold (IfElse c body other) = f.join (f.expression (condition_fold c)) (f.join (steps_fold body) (steps_fold other))

    pub steps_fold : FunctionStatementsTree → R
    steps_fold NoStep = f.none
    steps_fold (StepThen step rest) = f.join (step_fold step) (steps_fold rest)

  -- the fold of the function at an index; one that is not there gives what an empty one does
  abbrev pub steps_fold_where : Option FunctionTree → R
  steps_fold_where None = f.none
  steps_fold_where (Some g) = steps_fold g.steps

  abbrev pub function_fold : List FunctionTree → ℕ → R
  function_fold functions index = steps_fold_where (slice_get functions index)

  -- the fold of an end of an edge apply
  abbrev pub end_fold : List FunctionTree → Option VertexFilter → R
  end_fold filters None = f.none
  end_fold filters (Some (end.Members slot)) = f.access (ReadSet slot.index)
  end_fold filters (Some (end.Function index)) = function_fold filters index

  -- for proofs only: the folds of operands, and of conditions, in a row
  abbrev pub operands_fold : List Operand → R
  operands_fold [] = f.none
  operands_fold (o ∷ os) = f.join (integer_fold (int_expression_tree o.integer)) (operands_fold os)

  abbrev pub conditions_fold : List BoolExpression → R
  conditions_fold [] = f.none
  conditions_fold (c ∷ cs) = f.join (condition_fold (bool_expression_tree c)) (conditions_fold cs)
