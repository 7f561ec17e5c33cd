-- Typing of operators, and of entries of vectors.
use Rattle.std.specs.Prelude.{ℕ, Bool, true, false, if◌then◌else◌, [], Option, Some, None}
use Rattle.syntax.specs.declared.operators.Addition.{Addition}
use Rattle.syntax.specs.declared.operators.Addition.TheVariants as addition
use Rattle.syntax.specs.declared.operators.Multiplication.{Multiplication}
use Rattle.syntax.specs.declared.operators.Multiplication.TheVariants as multiplication
use Rattle.syntax.specs.declared.operators.Prefix.{Prefix}
use Rattle.syntax.specs.declared.operators.Prefix.TheVariants as prefix
use Rattle.syntax.specs.declared.operators.Relation.{Relation}
use Rattle.syntax.specs.declared.operators.Relation.TheVariants as relation
use Rattle.typed_tree.specs.declared.expression.ComparisonOperator.{ComparisonOperator}
use Rattle.typed_tree.specs.declared.expression.ComparisonOperator.TheVariants as comparison
use Rattle.typed_tree.specs.declared.expression.Connective.{Connective}
use Rattle.typed_tree.specs.declared.expression.Connective.TheVariants as connective
use Rattle.typed_tree.specs.declared.expression.Operator.{Operator}
use Rattle.typed_tree.specs.declared.expression.Operator.TheVariants as operator
use Rattle.typed_tree.specs.IntExpressionTree as integer
use Rattle.typed_tree.specs.IntExpressionTree.{IntExpressionTree}
use Rattle.typed_tree.specs.BoolExpressionTree as condition
use Rattle.typed_tree.specs.BoolExpressionTree.{BoolExpressionTree}
use Rattle.expression_types.specs.declared.fault.TypeRule.{TypeRule}
use Rattle.expression_types.specs.declared.fault.TypeRule.TheVariants as rule
use Rattle.expression_types.specs.declared.scope.Inside.{Inside}
use Rattle.expression_types.specs.declared.scope.Inside.TheVariants as inside
use Rattle.expression_types.specs.Faults.{WithFaults, sure, fault_at, ◌>>=◌}
use Rattle.expression_types.specs.ValueTree.{ValueTree, Integer, Condition, Vertex, Set, ErrorValue, reads_entry, condition_reads_entry}

abbrev pub addition_operator : Addition → Operator
addition_operator addition.Plus = operator.Add
addition_operator addition.Minus = operator.Subtract

abbrev pub multiplied : Multiplication → Operator
multiplied multiplication.Times = operator.Multiply
multiplied multiplication.Divide = operator.Divide
multiplied multiplication.Remainder = operator.Remainder

-- a value where there is one, else a fault
abbrev pub given_or_fault : ℕ → TypeRule → Option ValueTree → WithFaults ValueTree
given_or_fault at rule None = fault_at at rule ErrorValue
given_or_fault at rule (Some v) = sure v

-- a value with its faults, or without them if another part of the expression is faulty
abbrev pub unless_faulty : {A : Type 0} → Bool → WithFaults A → WithFaults A
unless_faulty faulty m = record { faults = if faulty then [] else m.faults; value = m.value }

-- What operators of one level take so far: all are of the type that they want; one is not; or one has a faulty part.
pub data IntegersTree : Type 0 where
  Integers : IntExpressionTree → IntegersTree
  MixedIntegers : IntegersTree
  ErrorIntegers : IntegersTree

pub data ConditionsTree : Type 0 where
  Conditions : BoolExpressionTree → ConditionsTree
  MixedConditions : ConditionsTree
  ErrorConditions : ConditionsTree

-- the first operand
abbrev pub first_integer : ValueTree → IntegersTree
first_integer (Integer e) = Integers e
first_integer (Condition c) = MixedIntegers
first_integer (Vertex at) = Integers (integer.Parameter at)
first_integer (Set slot) = MixedIntegers
first_integer ErrorValue = ErrorIntegers

abbrev pub first_condition : ValueTree → ConditionsTree
first_condition (Integer e) = MixedConditions
first_condition (Condition c) = Conditions c
first_condition (Vertex at) = MixedConditions
first_condition (Set slot) = MixedConditions
first_condition ErrorValue = ErrorConditions

-- one more operand, beside all before it
abbrev pub beside_integer : Operator → IntegersTree → IntegersTree → IntegersTree
beside_integer o (Integers a) (Integers b) = Integers (integer.Arithmetic o a b)
beside_integer o (Integers a) MixedIntegers = MixedIntegers
beside_integer o (Integers a) ErrorIntegers = ErrorIntegers
beside_integer o MixedIntegers (Integers b) = MixedIntegers
beside_integer o MixedIntegers MixedIntegers = MixedIntegers
beside_integer o MixedIntegers ErrorIntegers = ErrorIntegers
beside_integer o ErrorIntegers right = ErrorIntegers

abbrev pub beside_condition : Connective → ConditionsTree → ConditionsTree → ConditionsTree
beside_condition o (Conditions a) (Conditions b) = Conditions (condition.Connect o a b)
beside_condition o (Conditions a) MixedConditions = MixedConditions
beside_condition o (Conditions a) ErrorConditions = ErrorConditions
beside_condition o MixedConditions (Conditions b) = MixedConditions
beside_condition o MixedConditions MixedConditions = MixedConditions
beside_condition o MixedConditions ErrorConditions = ErrorConditions
beside_condition o ErrorConditions right = ErrorConditions

-- all operands of a level are one expression, which has one fault at most of its own
abbrev pub grouped_integers : ℕ → IntegersTree → WithFaults ValueTree
grouped_integers at (Integers e) = sure (Integer e)
grouped_integers at MixedIntegers = fault_at at rule.WrongType ErrorValue
grouped_integers at ErrorIntegers = sure ErrorValue

abbrev pub grouped_conditions : ℕ → ConditionsTree → WithFaults ValueTree
grouped_conditions at (Conditions c) = sure (Condition c)
grouped_conditions at MixedConditions = fault_at at rule.WrongType ErrorValue
grouped_conditions at ErrorConditions = sure ErrorValue

-- two integers are compared
abbrev pub compared : ComparisonOperator → (left right : IntegersTree) → Option ValueTree
compared o (Integers a) (Integers b) = Some (Condition (condition.Compare o a b))
compared o (Integers a) MixedIntegers = None
compared o (Integers a) ErrorIntegers = Some ErrorValue
compared o MixedIntegers (Integers b) = None
compared o MixedIntegers MixedIntegers = None
compared o MixedIntegers ErrorIntegers = Some ErrorValue
compared o ErrorIntegers right = Some ErrorValue

abbrev pub compared_value : ComparisonOperator → (left right : ValueTree) → Option ValueTree
compared_value o left right = compared o (first_integer left) (first_integer right)

-- two conditions are
abbrev pub equated : Connective → (left right : ConditionsTree) → Option ValueTree
equated o (Conditions a) (Conditions b) = Some (Condition (condition.Connect o a b))
equated o (Conditions a) MixedConditions = None
equated o (Conditions a) ErrorConditions = Some ErrorValue
equated o MixedConditions (Conditions b) = None
equated o MixedConditions MixedConditions = None
equated o MixedConditions ErrorConditions = Some ErrorValue
equated o ErrorConditions right = Some ErrorValue

-- two conditions, or two integers
abbrev pub equated_value : Connective → ComparisonOperator → (left right : ValueTree) → Option ValueTree
equated_value o p (Integer e) right = compared_value p (Integer e) right
equated_value o p (Condition c) right = equated o (Conditions c) (first_condition right)
equated_value o p (Vertex at) right = compared_value p (Vertex at) right
equated_value o p (Set slot) right = compared_value p (Set slot) right
equated_value o p ErrorValue right = Some ErrorValue

abbrev pub related_value : Relation → (left right : ValueTree) → Option ValueTree
related_value relation.Equal left right = equated_value connective.Equal comparison.Equal left right
related_value relation.NotEqual left right = equated_value connective.NotEqual comparison.NotEqual left right
related_value relation.Less left right = compared_value comparison.Less left right
related_value relation.LessOrEqual left right = compared_value comparison.LessOrEqual left right
related_value relation.Greater left right = compared_value comparison.Greater left right
related_value relation.GreaterOrEqual left right = compared_value comparison.GreaterOrEqual left right

-- an integer with its sign changed, a condition that is inverted
abbrev pub signed_value : Prefix → ValueTree → Option ValueTree
signed_value prefix.Minus (Integer e) = Some (Integer (integer.Negative e))
signed_value prefix.Minus (Condition c) = None
signed_value prefix.Minus (Vertex at) = Some (Integer (integer.Negative (integer.Parameter at)))
signed_value prefix.Minus (Set slot) = None
signed_value prefix.Minus ErrorValue = Some ErrorValue
signed_value prefix.Not (Integer e) = None
signed_value prefix.Not (Condition c) = Some (Condition (condition.Not c))
signed_value prefix.Not (Vertex at) = None
signed_value prefix.Not (Set slot) = None
signed_value prefix.Not ErrorValue = Some ErrorValue

-- An index of main is an integer that reads no entry; where it is neither, both rules are broken.
abbrev pub integer_index : ℕ → ℕ → IntExpressionTree → WithFaults ValueTree
integer_index at vector e = if reads_entry e then fault_at at rule.WrongIndex ErrorValue else sure (Integer (integer.Entry vector e))

abbrev pub condition_index : ℕ → Bool → WithFaults ValueTree
condition_index at true = fault_at at rule.WrongType ErrorValue >>= λ v. fault_at at rule.WrongIndex v
condition_index at false = fault_at at rule.WrongType ErrorValue

abbrev pub main_entry : ℕ → ℕ → ValueTree → WithFaults ValueTree
main_entry at vector (Integer e) = integer_index at vector e
main_entry at vector (Condition c) = condition_index at (condition_reads_entry c)
main_entry at vector (Vertex p) = integer_index at vector (integer.Parameter p)
main_entry at vector (Set slot) = fault_at at rule.WrongType ErrorValue
main_entry at vector ErrorValue = sure ErrorValue

-- an index in a function is a vertex that it works on
abbrev pub function_entry : ℕ → ℕ → ValueTree → WithFaults ValueTree
function_entry at vector (Integer e) = fault_at at rule.WrongIndex ErrorValue
function_entry at vector (Condition c) = fault_at at rule.WrongIndex ErrorValue
function_entry at vector (Vertex p) = sure (Integer (integer.EntryAt vector p))
function_entry at vector (Set slot) = fault_at at rule.WrongIndex ErrorValue
function_entry at vector ErrorValue = sure ErrorValue

-- the entry of a vector at an index
abbrev pub entry_value : Inside → ℕ → Option ℕ → ValueTree → WithFaults ValueTree
entry_value inside at None index = sure ErrorValue
entry_value inside.Main at (Some vector) index = main_entry at vector index
entry_value inside.EdgeFunction at (Some vector) index = function_entry at vector index
entry_value inside.VertexFunction at (Some vector) index = function_entry at vector index
entry_value inside.Filter at (Some vector) index = function_entry at vector index
