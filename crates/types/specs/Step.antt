-- Typing of statements of functions, in the order of the text. If one is faulty, or no function may hold it, a harmless one is in its place.
use Rattle.std.specs.Prelude.{[], ℕ, Bool, true, false, nat_eq, List, ◌∷◌, ◌++◌, length, Option, Some, None}
use Rattle.std.specs.Map.{lookup}
use Rattle.apply_options.specs.declared.reduction.Reduction.{Reduction}
use Rattle.apply_options.specs.declared.reduction.Reduction.TheVariants as reduction
use Rattle.syntax.specs.Terminals.{Identifier}
use Rattle.syntax.specs.SourceTrees.{ExpressionTree, InitialTree}
use Rattle.syntax.specs.declared.declaration.DeclaredType.{DeclaredType}
use Rattle.syntax.specs.declared.declaration.DeclaredType.TheVariants as declared
use Rattle.syntax.specs.SourceTrees as source
use Rattle.typed_tree.specs.declared.expression.Endpoint.{Endpoint}
use Rattle.typed_tree.specs.BoolExpressionTree.{Literal}
use Rattle.typed_tree.specs.IntExpressionTree.{IntExpressionTree}
use Rattle.typed_tree.specs.FunctionStatementTree.{FunctionStatementTree, FunctionStatementsTree, DeclareInt, DeclareBool, SetInt, SetBool}
use Rattle.typed_tree.specs.FunctionStatementTree.{ReduceInt, SetEntry, ReduceEntry, If, IfElse, NoStep, StepThen}
use Rattle.typed_tree.specs.declared.expression.Endpoint.TheVariants as endpoint
use Rattle.expression_types.specs.declared.scope.Entity.{Entity}
use Rattle.expression_types.specs.declared.scope.Inside.{Inside}
use Rattle.expression_types.specs.Expression.{index_value, used_name, value_of, vector_index}
use Rattle.expression_types.specs.Faults.{WithFaults, sure, fault_at, ◌>>=◌}
use Rattle.expression_types.specs.ScopeTree.{ScopeTree}
use Rattle.expression_types.specs.ValueTree.{ValueTree, Integer, Condition, Vertex, Set, ErrorValue}
use Rattle.expression_types.specs.declared.fault.TypeRule.TheVariants as rule
use Rattle.expression_types.specs.declared.scope.Entity.TheVariants as entity
use Rattle.expression_types.specs.declared.scope.Inside.TheVariants as inside
use Rattle.initializer_types.specs.Checker.{CheckerTree, integer_slot, condition_slot, in_scope, declared_in, with_label, integer_wanted, integer_in, condition_in}
use Rattle.initializer_types.specs.Initial.{InitializerTree, apply_end_of, initializer_of, initializer_integer, initializer_condition}

-- what is in place of a faulty statement
abbrev pub no_step : FunctionStatementTree
no_step = If (Literal false) NoStep

-- a declaration of a variable, and what is known after it
abbrev pub declare_step_as : CheckerTree → ℕ → Identifier → InitializerTree → DeclaredType → WithFaults (FunctionStatementTree × CheckerTree)
declare_step_as c at name initializer declared.Int =
    initializer_integer at initializer >>= λ e. declared_in c name (entity.IntVariable (integer_slot c)) >>= λ d. sure
    (DeclareInt (length c.names) e, d)
declare_step_as c at name initializer declared.Bool =
    initializer_condition at initializer >>= λ e. declared_in c name (entity.BoolVariable (condition_slot c)) >>= λ d. sure
    (DeclareBool (length c.names) e, d)
declare_step_as c at name initializer declared.VertexSet = fault_at at rule.WrongType no_step >>= λ a. declared_in c name entity.Error >>= λ d. sure (a, d)
declare_step_as c at name initializer declared.Vertex = fault_at at rule.WrongType no_step >>= λ a. declared_in c name entity.Error >>= λ d. sure (a, d)
declare_step_as c at name initializer declared.Vector = fault_at at rule.WrongType no_step >>= λ a. declared_in c name entity.Error >>= λ d. sure (a, d)
declare_step_as c at name initializer declared.EdgeSet = fault_at at rule.WrongType no_step >>= λ a. declared_in c name entity.Error >>= λ d. sure (a, d)
declare_step_as c at name initializer declared.WeightedEdgeSet =
    fault_at at rule.WrongType no_step >>= λ a. declared_in c name entity.Error >>= λ d. sure (a, d)

abbrev pub declare_step : CheckerTree → ℕ → Identifier → DeclaredType → InitialTree → WithFaults (FunctionStatementTree × CheckerTree)
declare_step c at name type initial = initializer_of c at initial >>= λ initializer. declare_step_as c at name initializer type

-- variables are assigned, and a filter's result
abbrev pub assigned_step : ℕ → InitializerTree → Entity → WithFaults FunctionStatementTree
assigned_step at initializer (entity.Edges weights) = fault_at at rule.WrongType no_step
assigned_step at initializer (entity.Vector index) = fault_at at rule.WrongType no_step
assigned_step at initializer (entity.ConstantSet slot) = fault_at at rule.WrongType no_step
assigned_step at initializer (entity.IntConstant name n) = fault_at at rule.WrongType no_step
assigned_step at initializer (entity.BoolConstant name b) = fault_at at rule.WrongType no_step
assigned_step at initializer (entity.IntVariable slot) = initializer_integer at initializer >>= λ e. sure (SetInt slot e)
assigned_step at initializer (entity.BoolVariable slot) = initializer_condition at initializer >>= λ e. sure (SetBool slot e)
assigned_step at initializer (entity.SetVariable slot) = fault_at at rule.WrongType no_step
assigned_step at initializer (entity.LoopVariable slot) = fault_at at rule.WrongType no_step
assigned_step at initializer (entity.Parameter p) = fault_at at rule.WrongType no_step
assigned_step at initializer entity.Weight = fault_at at rule.WrongType no_step
assigned_step at initializer (entity.EdgeFunction index weighted) = fault_at at rule.WrongType no_step
assigned_step at initializer (entity.VertexFunction index) = fault_at at rule.WrongType no_step
assigned_step at initializer (entity.Filter index) = fault_at at rule.WrongType no_step
assigned_step at initializer entity.Main = fault_at at rule.WrongType no_step
assigned_step at initializer entity.Error = sure no_step

abbrev pub assign_step : CheckerTree → ℕ → Identifier → InitialTree → WithFaults FunctionStatementTree
assign_step c at name initial = used_name c.scope name >>= λ e. initializer_of c at initial >>= λ initializer. assigned_step at initializer e

abbrev pub reduced_step : ℕ → Reduction → ValueTree → Entity → WithFaults FunctionStatementTree
reduced_step at by v (entity.Edges weights) = fault_at at rule.WrongType no_step
reduced_step at by v (entity.Vector index) = fault_at at rule.WrongType no_step
reduced_step at by v (entity.ConstantSet slot) = fault_at at rule.WrongType no_step
reduced_step at by v (entity.IntConstant name n) = fault_at at rule.WrongType no_step
reduced_step at by v (entity.BoolConstant name b) = fault_at at rule.WrongType no_step
reduced_step at by v (entity.IntVariable slot) = integer_wanted at v >>= λ e. sure (ReduceInt slot by e)
reduced_step at by v (entity.BoolVariable slot) = fault_at at rule.WrongType no_step
reduced_step at by v (entity.SetVariable slot) = fault_at at rule.WrongType no_step
reduced_step at by v (entity.LoopVariable slot) = fault_at at rule.WrongType no_step
reduced_step at by v (entity.Parameter p) = fault_at at rule.WrongType no_step
reduced_step at by v entity.Weight = fault_at at rule.WrongType no_step
reduced_step at by v (entity.EdgeFunction index weighted) = fault_at at rule.WrongType no_step
reduced_step at by v (entity.VertexFunction index) = fault_at at rule.WrongType no_step
reduced_step at by v (entity.Filter index) = fault_at at rule.WrongType no_step
reduced_step at by v entity.Main = fault_at at rule.WrongType no_step
reduced_step at by v entity.Error = sure no_step

abbrev pub reduce_step : ScopeTree → ℕ → Identifier → Reduction → ExpressionTree → WithFaults FunctionStatementTree
reduce_step scope at name by e = used_name scope name >>= λ n. value_of scope at e >>= λ v. reduced_step at by v n

-- the vertex at which a function writes
abbrev pub own_vertex : Inside → Endpoint
own_vertex inside.Main = endpoint.Source
own_vertex inside.EdgeFunction = endpoint.Destination
own_vertex inside.VertexFunction = endpoint.Source
own_vertex inside.Filter = endpoint.Source

abbrev pub same_endpoint : Endpoint → Endpoint → Bool
same_endpoint endpoint.Source endpoint.Source = true
same_endpoint endpoint.Source endpoint.Destination = false
same_endpoint endpoint.Destination endpoint.Source = false
same_endpoint endpoint.Destination endpoint.Destination = true

-- an entry is written there and nowhere else
abbrev pub at_own : ℕ → Bool → WithFaults Bool
at_own at true = sure true
at_own at false = fault_at at rule.WrongIndex false

abbrev pub written_at : ℕ → Endpoint → ValueTree → WithFaults Bool
written_at at own (Integer e) = fault_at at rule.WrongIndex false
written_at at own (Condition c) = fault_at at rule.WrongIndex false
written_at at own (Vertex p) = at_own at (same_endpoint p own)
written_at at own (Set slot) = fault_at at rule.WrongIndex false
written_at at own ErrorValue = sure false

-- an edge function writes no entry by `=`, and a filter none at all
abbrev pub may_set : ℕ → Inside → WithFaults Bool
may_set at inside.Main = sure false
may_set at inside.EdgeFunction = fault_at at rule.NotReduction false
may_set at inside.VertexFunction = sure true
may_set at inside.Filter = fault_at at rule.WrongType false

abbrev pub entry_step : Bool → Bool → Option ℕ → IntExpressionTree → FunctionStatementTree
entry_step may own None e = no_step
entry_step false own (Some vector) e = no_step
entry_step true false (Some vector) e = no_step
entry_step true true (Some vector) e = SetEntry vector e

abbrev pub set_entry_step : ScopeTree → ℕ → Identifier → (index e : ExpressionTree) → WithFaults FunctionStatementTree
set_entry_step scope at name index e =
    may_set at scope.inside >>= λ may. vector_index scope at name >>= λ vector.
    index_value scope at index >>= λ v. written_at at (own_vertex scope.inside) v >>= λ own.
    integer_in scope at e >>= λ x. sure (entry_step may own vector x)

-- an edge function reduces a vector in one way, which its first statement on that vector says
abbrev pub same_reduction : Reduction → Reduction → Bool
same_reduction reduction.Min reduction.Min = true
same_reduction reduction.Min reduction.Max = false
same_reduction reduction.Min reduction.Plus = false
same_reduction reduction.Max reduction.Min = false
same_reduction reduction.Max reduction.Max = true
same_reduction reduction.Max reduction.Plus = false
same_reduction reduction.Plus reduction.Min = false
same_reduction reduction.Plus reduction.Max = false
same_reduction reduction.Plus reduction.Plus = true

abbrev pub reduced_as : ℕ → Bool → List (ℕ × Reduction) → WithFaults (Bool × List (ℕ × Reduction))
reduced_as at true writes = sure (true, writes)
reduced_as at false writes = fault_at at rule.MixedReductions (false, writes)

abbrev pub written_with : ℕ → ℕ → Reduction → List (ℕ × Reduction) → Option Reduction → WithFaults (Bool × List (ℕ × Reduction))
written_with at vector by writes None = sure (true, writes ++ (vector, by) ∷ [])
written_with at vector by writes (Some first) = reduced_as at (same_reduction first by) writes

abbrev pub one_reduction : ℕ → Option ℕ → Reduction → List (ℕ × Reduction) → WithFaults (Bool × List (ℕ × Reduction))
one_reduction at None by writes = sure (false, writes)
one_reduction at (Some vector) by writes = written_with at vector by writes (lookup (nat_eq vector) writes)

-- a filter writes no entry, and a vertex function in any way
abbrev pub may_reduce : ℕ → Inside → Option ℕ → Reduction → List (ℕ × Reduction) → WithFaults (Bool × List (ℕ × Reduction))
may_reduce at inside.Main vector by writes = sure (false, writes)
may_reduce at inside.EdgeFunction vector by writes = one_reduction at vector by writes
may_reduce at inside.VertexFunction vector by writes = sure (true, writes)
may_reduce at inside.Filter vector by writes = fault_at at rule.WrongType (false, writes)

abbrev pub reduction_step : Bool → Bool → Option ℕ → Reduction → IntExpressionTree → FunctionStatementTree
reduction_step may own None by e = no_step
reduction_step false own (Some vector) by e = no_step
reduction_step true false (Some vector) by e = no_step
reduction_step true true (Some vector) by e = ReduceEntry vector by e

abbrev pub with_writes : CheckerTree → List (ℕ × Reduction) → CheckerTree
with_writes c writes = record c { writes = writes }

abbrev pub reduce_entry_step : CheckerTree → ℕ → Identifier → (index : ExpressionTree) → Reduction → (e : ExpressionTree)
    → WithFaults (FunctionStatementTree × CheckerTree)
reduce_entry_step c at name index by e =
    vector_index c.scope at name >>= λ vector. may_reduce at c.scope.inside vector by c.writes >>= λ may.
    index_value c.scope at index >>= λ v. written_at at (own_vertex c.scope.inside) v >>= λ own.
    integer_in c.scope at e >>= λ x. sure (reduction_step may.0 own vector by x, with_writes c may.1)

-- a statement that no function may hold; its parts are looked at too
abbrev pub no_add : ScopeTree → ℕ → Identifier → ExpressionTree → WithFaults FunctionStatementTree
no_add scope at set e = fault_at at rule.WrongType no_step >>= λ s. used_name scope set >>= λ n. value_of scope at e >>= λ v. sure s

abbrev pub no_apply : ScopeTree → ℕ → Identifier → source.EndsTree → Identifier → WithFaults FunctionStatementTree
no_apply scope at target ends function =
    fault_at at rule.WrongType no_step >>= λ s. used_name scope target >>= λ t. apply_end_of scope ends.from >>= λ a. apply_end_of scope ends.to >>= λ b.
    used_name scope function >>= λ f. sure s

-- a statement that declares nothing
abbrev pub step_in_place : CheckerTree → WithFaults FunctionStatementTree → WithFaults (FunctionStatementTree × CheckerTree)
step_in_place c step = step >>= λ s. sure (s, c)

-- the statements so far, with one more after them
abbrev pub step_after : FunctionStatementsTree → FunctionStatementTree → FunctionStatementsTree
step_after NoStep step = StepThen step NoStep
step_after (StepThen s others) step = StepThen s (step_after others step)

-- after a block the names that became visible in it are forgotten
abbrev pub steps_after : CheckerTree → CheckerTree → CheckerTree
steps_after c d = in_scope d c.scope

-- The name of a `for` is visible in its body alone, and its bounds are looked at before.
abbrev pub no_for : CheckerTree → ℕ → Identifier → (first limit : ExpressionTree) → (CheckerTree → WithFaults (FunctionStatementsTree × CheckerTree))
    → WithFaults (FunctionStatementTree × CheckerTree)
no_for c at name first limit body =
    fault_at at rule.WrongType no_step >>= λ s. integer_in c.scope at first >>= λ a. integer_in c.scope at limit >>= λ z.
    declared_in c name (entity.LoopVariable (integer_slot c)) >>= λ d. body d >>= λ b. sure (s, steps_after c b.1)

abbrev mutual
  pub step_typed : CheckerTree → source.StatementKindTree → WithFaults (FunctionStatementTree × CheckerTree)
  step_typed c (source.Declare at p initial) = declare_step c at p.name p.declared initial
  step_typed c (source.While at test body) =
      fault_at at rule.WrongType no_step >>= λ s. condition_in c.scope at test >>= λ t. steps_typed c NoStep body >>= λ b. sure (s, steps_after c b.1)
  step_typed c (source.For at name first limit body) =
      no_for c at name first limit (λ d. steps_typed d NoStep body)
  step_typed c (source.If at test body) =
      condition_in c.scope at test >>= λ t. steps_typed c NoStep body >>= λ b. sure (If t b.0, steps_after c b.1)
  step_typed c (source.IfElse at test body otherwise) =
      condition_in c.scope at test >>= λ t. steps_typed c NoStep body >>= λ b.
      steps_typed (steps_after c b.1) NoStep otherwise >>= λ o. sure (IfElse t b.0 o.0, steps_after (steps_after c b.1) o.1)
  step_typed c (source.Print at e) = fault_at at rule.PrintOutsideMain (no_step, c)
  step_typed c (source.Assign name initial) = step_in_place c (assign_step c name.at name initial)
  step_typed c (source.Reduce name by e) = step_in_place c (reduce_step c.scope name.at name by e)
  step_typed c (source.SetEntry vector index e) = step_in_place c (set_entry_step c.scope vector.at vector index e)
  step_typed c (source.ReduceEntry vector index by e) = reduce_entry_step c vector.at vector index by e
  step_typed c (source.AddVertex set e) = step_in_place c (no_add c.scope set.at set e)
  step_typed c (source.Apply target ends function) = step_in_place c (no_apply c.scope target.at target ends function)

  -- statements after those so far
  pub steps_typed : CheckerTree → FunctionStatementsTree → source.BlockTree → WithFaults (FunctionStatementsTree × CheckerTree)
  steps_typed c so_far source.Empty = sure (so_far, c)
  steps_typed c so_far (source.Then label action others) =
      with_label c label >>= λ l. step_typed l.1 action >>= λ s. steps_typed s.1 (step_after so_far s.0) others
