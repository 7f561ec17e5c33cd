-- A program in which each index is that of something that is there: variables, vertex sets, vectors, functions, labels and names.
use Rattle.std.specs.Prelude.{◌≡◌, ℕ, Bool, true, false, ◌<◌, List, [], ◌∷◌, ◌++◌, length, slice_get, Option, Some, None}
use Rattle.std.specs.List.{AllByRecursion}
use Rattle.typed_tree.specs.declared.expression.VarRef.{VarRef}
use Rattle.typed_tree.specs.declared.expression.Endpoint.{Endpoint}
use Rattle.typed_tree.specs.declared.expression.Endpoint.TheVariants as endpoint
use Rattle.typed_tree.specs.declared.program.Vector.{Vector}
use Rattle.typed_tree.specs.declared.statement.VertexFilter.{VertexFilter}
use Rattle.typed_tree.specs.declared.statement.VertexFilter.TheVariants as filter
use Rattle.typed_tree.specs.declared.statement.ApplyEnds.{ApplyEnds}
use Rattle.typed_tree.specs.declared.statement.SetValue.{SetValue}
use Rattle.typed_tree.specs.declared.statement.SetValue.TheVariants as set
use Rattle.typed_tree.specs.IntExpressionTree as integer
use Rattle.typed_tree.specs.IntExpressionTree.{IntExpressionTree}
use Rattle.typed_tree.specs.BoolExpressionTree as condition
use Rattle.typed_tree.specs.BoolExpressionTree.{BoolExpressionTree}
use Rattle.typed_tree.specs.FunctionStatementTree as step
use Rattle.typed_tree.specs.FunctionStatementTree.{FunctionTree, FunctionStatementTree, FunctionStatementsTree}
use Rattle.typed_tree.specs.BlockTree as action
use Rattle.typed_tree.specs.BlockTree.{SimpleStatementTree, StatementKindTree, BlockTree}
use Rattle.typed_tree.specs.ProgramTree.{ProgramTree}

-- What is visible at a point of a program, at its index: the names of the integers, of the conditions and of the vertex sets, of which
-- the constant ones come first; how many vertices the function around the point works on; and whether entries of vectors are read at an
-- index, as in main, where the index is tested. The bound of a `for` has an index after its name, and no name.
pub record VisibleTree : Type 0 where
  pub integers : List (Option ℕ)
  pub conditions : List ℕ
  pub sets : List ℕ
  pub vertices : ℕ
  pub indexes : Bool

-- one more of each kind
abbrev pub with_integer : ℕ → VisibleTree → VisibleTree
with_integer name v = record v { integers = v.integers ++ Some name ∷ [] }

abbrev pub with_condition : ℕ → VisibleTree → VisibleTree
with_condition name v = record v { conditions = v.conditions ++ name ∷ [] }

abbrev pub with_set : ℕ → VisibleTree → VisibleTree
with_set name v = record v { sets = v.sets ++ name ∷ [] }

abbrev pub in_loop : ℕ → VisibleTree → VisibleTree
in_loop name v = record v { integers = v.integers ++ Some name ∷ None ∷ [] }

-- at the first statement of `main`, of an edge function, of a vertex function, and of a filter with a result of this name
abbrev pub in_main : ProgramTree → VisibleTree
in_main p = record { integers = []; conditions = []; sets = p.sets; vertices = 0; indexes = true }

abbrev pub in_edge_function : ProgramTree → VisibleTree
in_edge_function p = record { integers = []; conditions = []; sets = p.sets; vertices = 2; indexes = false }

abbrev pub in_vertex_function : ProgramTree → VisibleTree
in_vertex_function p = record { integers = []; conditions = []; sets = p.sets; vertices = 1; indexes = false }

abbrev pub in_filter : ProgramTree → (result : ℕ) → VisibleTree
in_filter p result = record { integers = []; conditions = result ∷ []; sets = p.sets; vertices = 1; indexes = false }

-- the name, vector or function at an index is in its table
abbrev pub IsNameIndex : ProgramTree → ℕ → Type 0
IsNameIndex p name = name < length p.names

abbrev pub IsVectorIndex : ProgramTree → ℕ → Type 0
IsVectorIndex p vector = vector < length p.vectors

abbrev pub IsEdgeFunction : ProgramTree → ℕ → Type 0
IsEdgeFunction p function = function < length p.edge_functions

abbrev pub IsVertexFunction : ProgramTree → ℕ → Type 0
IsVertexFunction p function = function < length p.vertex_functions

abbrev pub IsFilter : ProgramTree → ℕ → Type 0
IsFilter p function = function < length p.filters

-- what is visible at the index has the name
abbrev pub IsIntVariable : ProgramTree → VisibleTree → VarRef → Type 0
IsIntVariable p v slot = (slice_get v.integers slot.index ≡ Some (Some slot.name)) × IsNameIndex p slot.name

abbrev pub IsCondition : ProgramTree → VisibleTree → VarRef → Type 0
IsCondition p v slot = (slice_get v.conditions slot.index ≡ Some slot.name) × IsNameIndex p slot.name

abbrev pub IsSetVariable : ProgramTree → VisibleTree → VarRef → Type 0
IsSetVariable p v slot = (slice_get v.sets slot.index ≡ Some slot.name) × IsNameIndex p slot.name

-- the source is before the destination
abbrev pub IsVertex : VisibleTree → Endpoint → Type 0
IsVertex v endpoint.Source = 0 < v.vertices
IsVertex v endpoint.Destination = 1 < v.vertices

-- the label is in its table, where there is one
abbrev pub IsLabel : ProgramTree → Option ℕ → Type 0
IsLabel p None = Unit {0}
IsLabel p (Some label) = label < length p.labels

-- all that an expression speaks of is there; an edge's weight is where the edge has a destination
abbrev pub IntegerIsResolved : ProgramTree → VisibleTree → IntExpressionTree → Type 0
IntegerIsResolved p v (integer.Number n) = Unit {0}
IntegerIsResolved p v (integer.Constant name n) = IsNameIndex p name
IntegerIsResolved p v (integer.Variable slot) = IsIntVariable p v slot
IntegerIsResolved p v (integer.Parameter at) = IsVertex v at
IntegerIsResolved p v integer.Weight = IsVertex v endpoint.Destination
IntegerIsResolved p v (integer.EntryAt vector at) = IsVectorIndex p vector × IsVertex v at
IntegerIsResolved p v (integer.Entry vector index) = (v.indexes ≡ true) × IsVectorIndex p vector × IntegerIsResolved p v index
IntegerIsResolved p v (integer.SetSize slot) = IsSetVariable p v slot
IntegerIsResolved p v (integer.Negative e) = IntegerIsResolved p v e
IntegerIsResolved p v (integer.Arithmetic operator left right) = IntegerIsResolved p v left × IntegerIsResolved p v right

abbrev pub ConditionIsResolved : ProgramTree → VisibleTree → BoolExpressionTree → Type 0
ConditionIsResolved p v (condition.Literal b) = Unit {0}
ConditionIsResolved p v (condition.Constant name b) = IsNameIndex p name
ConditionIsResolved p v (condition.Variable slot) = IsCondition p v slot
ConditionIsResolved p v (condition.Not c) = ConditionIsResolved p v c
ConditionIsResolved p v (condition.Compare comparison left right) = IntegerIsResolved p v left × IntegerIsResolved p v right
ConditionIsResolved p v (condition.Connect connective left right) = ConditionIsResolved p v left × ConditionIsResolved p v right

-- an end of an edge apply
abbrev pub EndIsResolved : ProgramTree → VisibleTree → Option VertexFilter → Type 0
EndIsResolved p v None = Unit {0}
EndIsResolved p v (Some (filter.Members slot)) = IsSetVariable p v slot
EndIsResolved p v (Some (filter.Function index)) = IsFilter p index

abbrev pub EndsAreResolved : ProgramTree → VisibleTree → ApplyEnds → Type 0
EndsAreResolved p v ends = EndIsResolved p v ends.from × EndIsResolved p v ends.to

-- the members that a vertex set gets
abbrev pub SetIsResolved : ProgramTree → VisibleTree → SetValue → Type 0
SetIsResolved p v set.Empty = Unit {0}
SetIsResolved p v set.All = Unit {0}
SetIsResolved p v (set.Copy slot) = IsSetVariable p v slot
SetIsResolved p v (set.Filter slot index) = IsSetVariable p v slot × IsFilter p index
SetIsResolved p v (set.Modified ends function vector) = EndsAreResolved p v ends × IsEdgeFunction p function × IsVectorIndex p vector

-- after a statement of a function
abbrev pub behind_step : FunctionStatementTree → VisibleTree → VisibleTree
behind_step (step.DeclareInt name e) v = with_integer name v
behind_step (step.DeclareBool name c) v = with_condition name v
behind_step (step.SetInt slot e) v = v
behind_step (step.SetBool slot c) v = v
behind_step (step.ReduceInt slot by e) v = v
behind_step (step.SetEntry vector e) v = v
behind_step (step.ReduceEntry vector by e) v = v
behind_step (step.If c body) v = v
behind_step (step.IfElse c body other) v = v

abbrev mutual
  pub StepIsResolved : ProgramTree → VisibleTree → FunctionStatementTree → Type 0
  StepIsResolved p v (step.DeclareInt name e) = IsNameIndex p name × IntegerIsResolved p v e
  StepIsResolved p v (step.DeclareBool name c) = IsNameIndex p name × ConditionIsResolved p v c
  StepIsResolved p v (step.SetInt slot e) = IsIntVariable p v slot × IntegerIsResolved p v e
  StepIsResolved p v (step.SetBool slot c) = IsCondition p v slot × ConditionIsResolved p v c
  StepIsResolved p v (step.ReduceInt slot by e) = IsIntVariable p v slot × IntegerIsResolved p v e
  StepIsResolved p v (step.SetEntry vector e) = IsVectorIndex p vector × IntegerIsResolved p v e
  StepIsResolved p v (step.ReduceEntry vector by e) = IsVectorIndex p vector × IntegerIsResolved p v e
  StepIsResolved p v (step.If c body) = ConditionIsResolved p v c × StepsAreResolved p v body
  StepIsResolved p v (step.IfElse c body other) = ConditionIsResolved p v c × StepsAreResolved p v body × StepsAreResolved p v other

  -- each statement, at what is visible after those before it
  pub StepsAreResolved : ProgramTree → VisibleTree → FunctionStatementsTree → Type 0
  StepsAreResolved p v step.NoStep = Unit {0}
  StepsAreResolved p v (step.StepThen first others) = StepIsResolved p v first × StepsAreResolved p (behind_step first v) others

-- after a statement of main
abbrev pub after_action : StatementKindTree → VisibleTree → VisibleTree
after_action (action.Simple (action.DeclareInt name e)) v = with_integer name v
after_action (action.Simple (action.DeclareBool name c)) v = with_condition name v
after_action (action.Simple (action.DeclareSet name value)) v = with_set name v
after_action _ v = v

-- a statement without a block
abbrev pub SimpleActionIsResolved : ProgramTree → VisibleTree → SimpleStatementTree → Type 0
SimpleActionIsResolved p v (action.DeclareInt name e) = IsNameIndex p name × IntegerIsResolved p v e
SimpleActionIsResolved p v (action.DeclareBool name c) = IsNameIndex p name × ConditionIsResolved p v c
SimpleActionIsResolved p v (action.SetInt slot e) = IsIntVariable p v slot × IntegerIsResolved p v e
SimpleActionIsResolved p v (action.SetBool slot c) = IsCondition p v slot × ConditionIsResolved p v c
SimpleActionIsResolved p v (action.ReduceInt slot by e) = IsIntVariable p v slot × IntegerIsResolved p v e
SimpleActionIsResolved p v (action.SetEntry vector index e) = IsVectorIndex p vector × IntegerIsResolved p v index × IntegerIsResolved p v e
SimpleActionIsResolved p v (action.ReduceEntry vector index by e) = IsVectorIndex p vector × IntegerIsResolved p v index × IntegerIsResolved p v e
SimpleActionIsResolved p v (action.DeclareSet name value) = IsNameIndex p name × SetIsResolved p v value
SimpleActionIsResolved p v (action.AssignSet slot value) = IsSetVariable p v slot × SetIsResolved p v value
SimpleActionIsResolved p v (action.AddVertex slot e) = IsSetVariable p v slot × IntegerIsResolved p v e
SimpleActionIsResolved p v (action.PrintInt e) = IntegerIsResolved p v e
SimpleActionIsResolved p v (action.PrintBool c) = ConditionIsResolved p v c
SimpleActionIsResolved p v (action.ApplyVertex slot function) = IsSetVariable p v slot × IsVertexFunction p function
SimpleActionIsResolved p v (action.ApplyEdges ends function) = EndsAreResolved p v ends × IsEdgeFunction p function

abbrev mutual
  pub ActionIsResolved : ProgramTree → VisibleTree → StatementKindTree → Type 0
  ActionIsResolved p v (action.Simple a) = SimpleActionIsResolved p v a
  ActionIsResolved p v (action.If c body) = ConditionIsResolved p v c × BlockIsResolved p v body
  ActionIsResolved p v (action.IfElse c body other) = ConditionIsResolved p v c × BlockIsResolved p v body × BlockIsResolved p v other
  ActionIsResolved p v (action.While c body) = ConditionIsResolved p v c × BlockIsResolved p v body
  ActionIsResolved p v (action.For name first end body) =
      IsNameIndex p name × IntegerIsResolved p v first × IntegerIsResolved p v end × BlockIsResolved p (in_loop name v) body

  -- each statement, at what is visible after those before it
  pub BlockIsResolved : ProgramTree → VisibleTree → BlockTree → Type 0
  BlockIsResolved p v action.Empty = Unit {0}
  BlockIsResolved p v (action.Then number label first others) =
      IsLabel p label × ActionIsResolved p v first × BlockIsResolved p (after_action first v) others

-- functions with their names
abbrev pub EdgeFunctionIsResolved : ProgramTree → FunctionTree → Type 0
EdgeFunctionIsResolved p f = IsNameIndex p f.name × StepsAreResolved p (in_edge_function p) f.steps

abbrev pub VertexFunctionIsResolved : ProgramTree → FunctionTree → Type 0
VertexFunctionIsResolved p f = IsNameIndex p f.name × StepsAreResolved p (in_vertex_function p) f.steps

abbrev pub FilterIsResolved : ProgramTree → FunctionTree → Type 0
FilterIsResolved p f = IsNameIndex p f.name × ((result : ℕ) × IsNameIndex p result × StepsAreResolved p (in_filter p result) f.steps)

abbrev pub VectorIsResolved : ProgramTree → Vector → Type 0
VectorIsResolved p vector = IsNameIndex p vector.name

-- the constant of the edges, where there is one
abbrev pub EdgesAreResolved : ProgramTree → Option ℕ → Type 0
EdgesAreResolved p None = Unit {0}
EdgesAreResolved p (Some name) = IsNameIndex p name

pub record IsResolved (p : ProgramTree) : Type 0 where
  pub edges : EdgesAreResolved p p.edges
  pub vectors : AllByRecursion (VectorIsResolved p) p.vectors
  pub sets : AllByRecursion (IsNameIndex p) p.sets
  pub edge_functions : AllByRecursion (EdgeFunctionIsResolved p) p.edge_functions
  pub vertex_functions : AllByRecursion (VertexFunctionIsResolved p) p.vertex_functions
  pub filters : AllByRecursion (FilterIsResolved p) p.filters
  pub main : BlockIsResolved p (in_main p) p.main
