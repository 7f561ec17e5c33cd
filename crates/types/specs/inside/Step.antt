-- Beside `Step`: the blocks of functions as the walk over blocks sees them. No public contract cites these definitions.
use Rattle.std.proofs.Common.{◌≡◌, refl, ap, sym, ℕ, List, [], ◌∷◌, ◌++◌, length}
use Rattle.syntax.specs.Terminals.{Identifier}
use Rattle.syntax.specs.declared.declaration.DeclaredType.{DeclaredType}
use Rattle.syntax.specs.declared.declaration.DeclaredType.TheVariants as declared
use Rattle.typed_tree.specs.FunctionStatementTree.{DeclareInt, DeclareBool, FunctionStatementTree, FunctionStatementsTree, StepThen}
use Rattle.typed_tree.specs.FunctionStatementTree.{function_statement_tree, function_statements_tree}
use Rattle.typed_tree.specs.FunctionStatementTree as typed
use Rattle.typed_tree.specs.declared.function.FunctionStatement.{FunctionStatement}
use Rattle.expression_types.specs.declared.fault.TypeRule.TheVariants as rule
use Rattle.expression_types.specs.declared.scope.Entity.TheVariants as entity
use Rattle.expression_types.specs.Faults.{sure, ◌>>=◌}
use Rattle.expression_types.proofs.Steps.{bind-bind}
use Rattle.initializer_types.specs.Checker.{CheckerTree, condition_slot, integer_slot}
use Rattle.initializer_types.specs.Initial.{InitializerTree, initializer_condition, initializer_integer, initializer_of}
use Rattle.types.specs.Step.{assigned_step, declare_step_as, no_step, reduced_step, step_after, step_typed, steps_typed}
use Rattle.types.specs.inside.BlockMeaning.{BlockMeaning, CompoundTree, For, If, IfElse, IsWalked, While, visible_then}
use Rattle.types.specs.inside.Variables.{step_variable_as}

-- no function may hold a loop
abbrev pub function_compound : CompoundTree FunctionStatementsTree → FunctionStatementTree
function_compound (While test body) = no_step
function_compound (If test body) = typed.If test body
function_compound (IfElse test body other) = typed.IfElse test body other
function_compound (For name first limit body) = no_step

abbrev pub function_meaning : BlockMeaning FunctionStatement FunctionStatement FunctionStatementTree FunctionStatementTree FunctionStatementsTree
function_meaning = record {
  action_tree = function_statement_tree;
  statement_tree = function_statement_tree;
  row_tree = function_statements_tree;
  action_typed = step_typed;
  row_typed = steps_typed;
  counted = λ c. c;
  number = λ c. 0;
  labelled = λ number label action. action;
  with_next = step_after;
  loop_faults = λ at. record { at = at; rule = rule.WrongType } ∷ [];
  compound = function_compound;
  variable_as = step_variable_as;
  assigned = assigned_step;
  reduced = reduced_step;
}

pushed : (xs : List FunctionStatement) (s : FunctionStatement)
    → function_statements_tree (xs ++ s ∷ []) ≡ step_after (function_statements_tree xs) (function_statement_tree s)
pushed [] s = refl
pushed (x ∷ xs) s = ap (StepThen (function_statement_tree x)) (pushed xs s)

declared_so : (c : CheckerTree) (at : ℕ) (name : Identifier) (i : InitializerTree) (type : DeclaredType)
    → declare_step_as c at name i type ≡ (step_variable_as c at i type >>= visible_then c name)
declared_so c at name i declared.Int =
    sym (bind-bind (initializer_integer at i) (λ e. sure (entity.IntVariable (integer_slot c), DeclareInt (length c.names) e)) (visible_then c name))
declared_so c at name i declared.Bool =
    sym (bind-bind (initializer_condition at i) (λ e. sure (entity.BoolVariable (condition_slot c), DeclareBool (length c.names) e)) (visible_then c name))
declared_so c at name i declared.VertexSet = refl
declared_so c at name i declared.Vertex = refl
declared_so c at name i declared.Vector = refl
declared_so c at name i declared.EdgeSet = refl
declared_so c at name i declared.WeightedEdgeSet = refl

-- the blocks of functions are as the walk takes them to be
pub function_walked : IsWalked function_meaning
function_walked = record {
  pushed = pushed;
  ends = λ c so_far. refl;
  goes_on = λ c so_far label action others. refl;
  whiles = λ c at test body. refl;
  ifs = λ c at test body. refl;
  if_elses = λ c at test body otherwise. refl;
  fors = λ c at name first limit body. refl;
  declares = λ c at p initial. (λ j. initializer_of c at initial >>= λ i. declared_so c at p.name i p.declared j);
  assigns = λ c name initial. refl;
  reduces = λ c name by e. refl;
}
