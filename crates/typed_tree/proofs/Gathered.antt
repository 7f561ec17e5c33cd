-- A test of accesses is a test of what is gathered from them.
use Rattle.std.proofs.Common.{◌≡◌, refl, sym, ◌∙◌, ℕ, Bool, ◌&&◌, List, ◌++◌}
use Rattle.std.specs.Prelude.{Option, Some, None, slice_get}
use Rattle.std.specs.List.{list_all}
use Rattle.std.proofs.lemmas.List.Folds.{list_all-append}
use Rattle.typed_tree.specs.declared.accesses.Access.{Access}
use Rattle.typed_tree.specs.declared.accesses.Access.TheVariants.{ReadAtVertex, ReadAtIndex, ReadSet, Write}
use Rattle.typed_tree.specs.declared.statement.VertexFilter.{VertexFilter}
use Rattle.typed_tree.specs.declared.statement.VertexFilter.TheVariants as end
use Rattle.typed_tree.specs.IntExpressionTree.{IntExpressionTree}
use Rattle.typed_tree.specs.IntExpressionTree as integer
use Rattle.typed_tree.specs.BoolExpressionTree.{BoolExpressionTree}
use Rattle.typed_tree.specs.BoolExpressionTree as condition
use Rattle.typed_tree.specs.FunctionStatementTree.{FunctionTree, FunctionStatementTree, FunctionStatementsTree, DeclareInt, DeclareBool, SetInt, SetBool, ReduceInt, SetEntry}
use Rattle.typed_tree.specs.FunctionStatementTree.{ReduceEntry, If, IfElse, NoStep, StepThen}
use Rattle.typed_tree.specs.Fold.{all_pass, condition_fold, end_fold, function_fold, gathered, integer_fold, step_fold, steps_fold, steps_fold_where}

-- an access passes where all that it gives passes
module _ (passes : Access → Bool) (gives : Access → List ℕ) (P : ℕ → Bool) (each : (a : Access) → passes a ≡ list_all P (gives a)) where
  two : (a b : Bool) (xs ys : List ℕ) → a ≡ list_all P xs → b ≡ list_all P ys → a && b ≡ list_all P (xs ++ ys)
  two a b xs ys first second = (λ i. first i && second i) ∙ sym (list_all-append P xs ys)

  pub integer_gathered : (e : IntExpressionTree) → integer_fold (all_pass passes) e ≡ list_all P (integer_fold (gathered gives) e)
  integer_gathered (integer.Number n) = refl
  integer_gathered (integer.Constant name n) = refl
  integer_gathered (integer.Variable slot) = refl
  integer_gathered (integer.Parameter at) = refl
  integer_gathered integer.Weight = refl
  integer_gathered (integer.EntryAt vector at) = each (ReadAtVertex vector)
  integer_gathered (integer.Entry vector subscript) = two _ _ (gives (ReadAtIndex vector)) (integer_fold (gathered gives) subscript) (each (ReadAtIndex vector)) (integer_gathered subscript)
  integer_gathered (integer.SetSize slot) = each (ReadSet slot.index)
  integer_gathered (integer.Negative e) = integer_gathered e
  integer_gathered (integer.Arithmetic operator a b) = two _ _ (integer_fold (gathered gives) a) (integer_fold (gathered gives) b) (integer_gathered a) (integer_gathered b)

  pub condition_gathered : (c : BoolExpressionTree) → condition_fold (all_pass passes) c ≡ list_all P (condition_fold (gathered gives) c)
  condition_gathered (condition.Literal b) = refl
  condition_gathered (condition.Constant name b) = refl
  condition_gathered (condition.Variable slot) = refl
  condition_gathered (condition.Not c) = condition_gathered c
  condition_gathered (condition.Compare comparison a b) = two _ _ (integer_fold (gathered gives) a) (integer_fold (gathered gives) b) (integer_gathered a) (integer_gathered b)
  condition_gathered (condition.Connect connective a b) = two _ _ (condition_fold (gathered gives) a) (condition_fold (gathered gives) b) (condition_gathered a) (condition_gathered b)

  mutual
    pub step_gathered : (step : FunctionStatementTree) → step_fold (all_pass passes) step ≡ list_all P (step_fold (gathered gives) step)
    step_gathered (DeclareInt name e) = integer_gathered e
    step_gathered (DeclareBool name c) = condition_gathered c
    step_gathered (SetInt slot e) = integer_gathered e
    step_gathered (SetBool slot c) = condition_gathered c
    step_gathered (ReduceInt slot reduction e) = integer_gathered e
    step_gathered (SetEntry vector e) = two _ _ (gives (Write vector)) (integer_fold (gathered gives) e) (each (Write vector)) (integer_gathered e)
    step_gathered (ReduceEntry vector reduction e) = two _ _ (gives (Write vector)) (integer_fold (gathered gives) e) (each (Write vector)) (integer_gathered e)
    step_gathered (If c body) = two _ _ (condition_fold (gathered gives) c) (steps_fold (gathered gives) body) (condition_gathered c) (steps_gathered body)
    step_gathered (IfElse c body other) =
        two _ _ (condition_fold (gathered gives) c) (steps_fold (gathered gives) body ++ steps_fold (gathered gives) other) (condition_gathered c)
        (two _ _ (steps_fold (gathered gives) body) (steps_fold (gathered gives) other) (steps_gathered body) (steps_gathered other))

    pub steps_gathered : (steps : FunctionStatementsTree) → steps_fold (all_pass passes) steps ≡ list_all P (steps_fold (gathered gives) steps)
    steps_gathered NoStep = refl
    steps_gathered (StepThen step rest) = two _ _ (step_fold (gathered gives) step) (steps_fold (gathered gives) rest) (step_gathered step) (steps_gathered rest)

  where_gathered : (f : Option FunctionTree) → steps_fold_where (all_pass passes) f ≡ list_all P (steps_fold_where (gathered gives) f)
  where_gathered None = refl
  where_gathered (Some f) = steps_gathered f.steps

  pub function_gathered : (functions : List FunctionTree) (index : ℕ) → function_fold (all_pass passes) functions index ≡ list_all P (function_fold (gathered gives) functions index)
  function_gathered functions index = where_gathered (slice_get functions index)

  pub end_gathered : (filters : List FunctionTree) (end : Option VertexFilter) → end_fold (all_pass passes) filters end ≡ list_all P (end_fold (gathered gives) filters end)
  end_gathered filters None = refl
  end_gathered filters (Some (end.Members slot)) = each (ReadSet slot.index)
  end_gathered filters (Some (end.Function index)) = function_gathered filters index
