-- Typing of statements of main without blocks. If one is faulty, a harmless one is in its place.
use Rattle.std.specs.Prelude.{ℕ, Bool, ◌||◌, if◌then◌else◌, length, Option, Some, None, is_some}
use Rattle.syntax.specs.Terminals.{Identifier}
use Rattle.syntax.specs.SourceTrees.{ExpressionTree, EndsTree, InitialTree}
use Rattle.syntax.specs.declared.declaration.DeclaredType.{DeclaredType}
use Rattle.syntax.specs.declared.declaration.DeclaredType.TheVariants as declared
use Rattle.apply_options.specs.declared.reduction.Reduction.{Reduction}
use Rattle.typed_tree.specs.declared.expression.VarRef.{VarRef}
use Rattle.typed_tree.specs.IntExpressionTree.{IntExpressionTree, Parameter}
use Rattle.typed_tree.specs.BlockTree.{StatementKindTree, Simple, DeclareInt, DeclareBool, SetInt, SetBool, ReduceInt, SetEntry, ReduceEntry}
use Rattle.typed_tree.specs.BlockTree.{DeclareSet, AssignSet, AddVertex, PrintInt, PrintBool, ApplyVertex, ApplyEdges}
use Rattle.expression_types.specs.declared.fault.TypeRule.TheVariants as rule
use Rattle.expression_types.specs.declared.scope.Entity.{Entity}
use Rattle.expression_types.specs.declared.scope.Entity.TheVariants as entity
use Rattle.expression_types.specs.Expression.{used_name, value_of, vector_index}
use Rattle.expression_types.specs.Faults.{WithFaults, sure, fault_at, ◌>>=◌}
use Rattle.expression_types.specs.ScopeTree.{ScopeTree}
use Rattle.expression_types.specs.ValueTree.{ValueTree, Integer, Condition, Vertex, Set, ErrorValue, entity_set}
use Rattle.initializer_types.specs.Checker.{CheckerTree, integer_slot, condition_slot, set_slot, declared_in, some_integer, integer_wanted, as_index, integer_in}
use Rattle.initializer_types.specs.Initial.{InitializerTree, ApplyEndTree, initializer_of, apply_end_of, is_wrong, is_error_end, ends_given, names_error, is_edges}
use Rattle.initializer_types.specs.Initial.{lacks_weights, edge_function, vertex_function, initializer_integer, initializer_condition, initializer_members}

-- what is in place of a faulty statement
abbrev pub no_action : StatementKindTree
no_action = Simple (PrintInt some_integer)

-- A declaration of a variable, and what is known after it. The name is not visible in its first value.
abbrev pub declare_as : CheckerTree → ℕ → Identifier → InitializerTree → DeclaredType → WithFaults (StatementKindTree × CheckerTree)
declare_as c at name initializer declared.Int =
    initializer_integer at initializer >>= λ e. declared_in c name (entity.IntVariable (integer_slot c)) >>= λ d. sure
    (Simple (DeclareInt (length c.names) e), d)
declare_as c at name initializer declared.Bool =
    initializer_condition at initializer >>= λ e. declared_in c name (entity.BoolVariable (condition_slot c)) >>= λ d. sure
    (Simple (DeclareBool (length c.names) e), d)
declare_as c at name initializer declared.VertexSet =
    initializer_members at initializer >>= λ s. declared_in c name (entity.SetVariable (set_slot c)) >>= λ d. sure (Simple (DeclareSet (length c.names) s), d)
declare_as c at name initializer declared.Vertex = fault_at at rule.WrongType no_action >>= λ a. declared_in c name entity.Error >>= λ d. sure (a, d)
declare_as c at name initializer declared.Vector = fault_at at rule.WrongType no_action >>= λ a. declared_in c name entity.Error >>= λ d. sure (a, d)
declare_as c at name initializer declared.EdgeSet = fault_at at rule.WrongType no_action >>= λ a. declared_in c name entity.Error >>= λ d. sure (a, d)
declare_as c at name initializer declared.WeightedEdgeSet = fault_at at rule.WrongType no_action >>= λ a. declared_in c name entity.Error >>= λ d. sure (a, d)

abbrev pub declare_variable : CheckerTree → ℕ → Identifier → DeclaredType → InitialTree → WithFaults (StatementKindTree × CheckerTree)
declare_variable c at name type initial = initializer_of c at initial >>= λ initializer. declare_as c at name initializer type

-- variables are assigned, and nothing else
abbrev pub assigned : ℕ → InitializerTree → Entity → WithFaults StatementKindTree
assigned at initializer (entity.Edges weights) = fault_at at rule.WrongType no_action
assigned at initializer (entity.Vector index) = fault_at at rule.WrongType no_action
assigned at initializer (entity.ConstantSet slot) = fault_at at rule.WrongType no_action
assigned at initializer (entity.IntConstant name n) = fault_at at rule.WrongType no_action
assigned at initializer (entity.BoolConstant name b) = fault_at at rule.WrongType no_action
assigned at initializer (entity.IntVariable slot) = initializer_integer at initializer >>= λ e. sure (Simple (SetInt slot e))
assigned at initializer (entity.BoolVariable slot) = initializer_condition at initializer >>= λ e. sure (Simple (SetBool slot e))
assigned at initializer (entity.SetVariable slot) = initializer_members at initializer >>= λ s. sure (Simple (AssignSet slot s))
assigned at initializer (entity.LoopVariable slot) = fault_at at rule.WrongType no_action
assigned at initializer (entity.Parameter p) = fault_at at rule.WrongType no_action
assigned at initializer entity.Weight = fault_at at rule.WrongType no_action
assigned at initializer (entity.EdgeFunction index weighted) = fault_at at rule.WrongType no_action
assigned at initializer (entity.VertexFunction index) = fault_at at rule.WrongType no_action
assigned at initializer (entity.Filter index) = fault_at at rule.WrongType no_action
assigned at initializer entity.Main = fault_at at rule.WrongType no_action
assigned at initializer entity.Error = sure no_action

abbrev pub assign : CheckerTree → ℕ → Identifier → InitialTree → WithFaults StatementKindTree
assign c at name initial = used_name c.scope name >>= λ e. initializer_of c at initial >>= λ initializer. assigned at initializer e

-- int variables are reduced
abbrev pub reduced : ℕ → Reduction → ValueTree → Entity → WithFaults StatementKindTree
reduced at by v (entity.Edges weights) = fault_at at rule.WrongType no_action
reduced at by v (entity.Vector index) = fault_at at rule.WrongType no_action
reduced at by v (entity.ConstantSet slot) = fault_at at rule.WrongType no_action
reduced at by v (entity.IntConstant name n) = fault_at at rule.WrongType no_action
reduced at by v (entity.BoolConstant name b) = fault_at at rule.WrongType no_action
reduced at by v (entity.IntVariable slot) = integer_wanted at v >>= λ e. sure (Simple (ReduceInt slot by e))
reduced at by v (entity.BoolVariable slot) = fault_at at rule.WrongType no_action
reduced at by v (entity.SetVariable slot) = fault_at at rule.WrongType no_action
reduced at by v (entity.LoopVariable slot) = fault_at at rule.WrongType no_action
reduced at by v (entity.Parameter p) = fault_at at rule.WrongType no_action
reduced at by v entity.Weight = fault_at at rule.WrongType no_action
reduced at by v (entity.EdgeFunction index weighted) = fault_at at rule.WrongType no_action
reduced at by v (entity.VertexFunction index) = fault_at at rule.WrongType no_action
reduced at by v (entity.Filter index) = fault_at at rule.WrongType no_action
reduced at by v entity.Main = fault_at at rule.WrongType no_action
reduced at by v entity.Error = sure no_action

abbrev pub reduce : ScopeTree → ℕ → Identifier → Reduction → ExpressionTree → WithFaults StatementKindTree
reduce scope at name by e = used_name scope name >>= λ n. value_of scope at e >>= λ v. reduced at by v n

-- an entry at an index
abbrev pub entry_set : Option ℕ → Option IntExpressionTree → IntExpressionTree → StatementKindTree
entry_set None index e = no_action
entry_set (Some vector) None e = no_action
entry_set (Some vector) (Some index) e = Simple (SetEntry vector index e)

abbrev pub set_entry : ScopeTree → ℕ → Identifier → (index e : ExpressionTree) → WithFaults StatementKindTree
set_entry scope at name index e =
    vector_index scope at name >>= λ vector. value_of scope at index >>= λ v. as_index at v >>= λ i.
    integer_in scope at e >>= λ x. sure (entry_set vector i x)

abbrev pub entry_reduced : Option ℕ → Option IntExpressionTree → Reduction → IntExpressionTree → StatementKindTree
entry_reduced None index by e = no_action
entry_reduced (Some vector) None by e = no_action
entry_reduced (Some vector) (Some index) by e = Simple (ReduceEntry vector index by e)

abbrev pub reduce_entry : ScopeTree → ℕ → Identifier → (index : ExpressionTree) → Reduction → (e : ExpressionTree) → WithFaults StatementKindTree
reduce_entry scope at name index by e =
    vector_index scope at name >>= λ vector. value_of scope at index >>= λ v. as_index at v >>= λ i.
    integer_in scope at e >>= λ x. sure (entry_reduced vector i by x)

-- set variables get vertices
abbrev pub added_to_set : ℕ → ValueTree → Entity → WithFaults StatementKindTree
added_to_set at v (entity.Edges weights) = fault_at at rule.WrongType no_action
added_to_set at v (entity.Vector index) = fault_at at rule.WrongType no_action
added_to_set at v (entity.ConstantSet slot) = fault_at at rule.WrongType no_action
added_to_set at v (entity.IntConstant name n) = fault_at at rule.WrongType no_action
added_to_set at v (entity.BoolConstant name b) = fault_at at rule.WrongType no_action
added_to_set at v (entity.IntVariable slot) = fault_at at rule.WrongType no_action
added_to_set at v (entity.BoolVariable slot) = fault_at at rule.WrongType no_action
added_to_set at v (entity.SetVariable slot) = integer_wanted at v >>= λ e. sure (Simple (AddVertex slot e))
added_to_set at v (entity.LoopVariable slot) = fault_at at rule.WrongType no_action
added_to_set at v (entity.Parameter p) = fault_at at rule.WrongType no_action
added_to_set at v entity.Weight = fault_at at rule.WrongType no_action
added_to_set at v (entity.EdgeFunction index weighted) = fault_at at rule.WrongType no_action
added_to_set at v (entity.VertexFunction index) = fault_at at rule.WrongType no_action
added_to_set at v (entity.Filter index) = fault_at at rule.WrongType no_action
added_to_set at v entity.Main = fault_at at rule.WrongType no_action
added_to_set at v entity.Error = sure no_action

abbrev pub add_vertex : ScopeTree → ℕ → Identifier → ExpressionTree → WithFaults StatementKindTree
add_vertex scope at set e = used_name scope set >>= λ s. value_of scope at e >>= λ v. added_to_set at v s

-- a number or a truth value is printed
abbrev pub printed : ℕ → ValueTree → WithFaults StatementKindTree
printed at (Integer e) = sure (Simple (PrintInt e))
printed at (Condition c) = sure (Simple (PrintBool c))
printed at (Vertex p) = sure (Simple (PrintInt (Parameter p)))
printed at (Set slot) = fault_at at rule.WrongType no_action
printed at ErrorValue = sure no_action

abbrev pub print : ScopeTree → ℕ → ExpressionTree → WithFaults StatementKindTree
print scope at e = value_of scope at e >>= printed at

-- Edge functions are applied to the edges, and vertex functions to vertex sets, which have no ends. A name that is not clear breaks no
-- further rule.
abbrev pub edges_applied : ℕ → ApplyEndTree → ApplyEndTree → Bool → Option ℕ → WithFaults StatementKindTree
edges_applied at a b error None = if error then sure no_action else fault_at at rule.WrongType no_action
edges_applied at a b error (Some function) = if is_error_end a || is_error_end b then sure no_action else sure (Simple (ApplyEdges (ends_given a b) function))

abbrev pub vertices_applied : ℕ → VarRef → Bool → Option ℕ → WithFaults StatementKindTree
vertices_applied at slot error None = if error then sure no_action else fault_at at rule.WrongType no_action
vertices_applied at slot error (Some function) = sure (Simple (ApplyVertex slot function))

abbrev pub set_applied : ℕ → Bool → Entity → Option VarRef → WithFaults StatementKindTree
set_applied at ends f None = fault_at at rule.WrongType no_action
set_applied at ends f (Some slot) =
    if ends then fault_at at rule.WrongType no_action else vertices_applied at slot (names_error f) (vertex_function f)

abbrev pub applied : ℕ → Entity → ApplyEndTree → ApplyEndTree → Bool → Entity → WithFaults StatementKindTree
applied at t a b ends f =
    if names_error t then sure no_action
    else (if is_edges t then
    (if is_wrong a || is_wrong b || lacks_weights t f then fault_at at rule.WrongType no_action else edges_applied at a b (names_error f) (edge_function f))
    else set_applied at ends f (entity_set t))

-- whether an end is written
abbrev pub has_ends : EndsTree → Bool
has_ends ends = is_some ends.from || is_some ends.to

abbrev pub apply : ScopeTree → ℕ → Identifier → EndsTree → Identifier → WithFaults StatementKindTree
apply scope at target ends function =
    used_name scope target >>= λ t. apply_end_of scope ends.from >>= λ a. apply_end_of scope ends.to >>= λ b. used_name scope function >>= λ f.
    applied at t a b (has_ends ends) f
