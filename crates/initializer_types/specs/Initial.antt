-- Initializers: initial and assigned values; and the ends of applies.
use Rattle.std.specs.Prelude.{ℕ, zero, suc, ℤ, pos, negsuc, Bool, true, false, not, ◌||◌, ◌&&◌, if◌then◌else◌, nat_eq, List, [], slice_index_or, is_some}
use Rattle.std.specs.Prelude.{Option, Some, None}
use Rattle.std.specs.Map.{lookup}
use Rattle.apply_options.specs.declared.reduction.Reduction.{Reduction}
use Rattle.syntax.specs.Terminals.{Identifier}
use Rattle.syntax.specs.SourceTrees.{InitialTree, NewSet, Load, Vertices, OutDegrees, Filter, ApplyModified, Value}
use Rattle.typed_tree.specs.declared.expression.VarRef.{VarRef}
use Rattle.typed_tree.specs.declared.statement.VertexFilter.{VertexFilter}
use Rattle.typed_tree.specs.declared.statement.VertexFilter.TheVariants as filter
use Rattle.typed_tree.specs.declared.statement.ApplyEnds.{ApplyEnds}
use Rattle.typed_tree.specs.declared.statement.SetValue.{SetValue}
use Rattle.typed_tree.specs.declared.statement.SetValue.TheVariants as set
use Rattle.typed_tree.specs.IntExpressionTree.{IntExpressionTree}
use Rattle.typed_tree.specs.BoolExpressionTree.{BoolExpressionTree}
use Rattle.expression_types.specs.declared.fault.TypeRule.TheVariants as rule
use Rattle.expression_types.specs.declared.scope.Entity.{Entity}
use Rattle.expression_types.specs.declared.scope.Entity.TheVariants as entity
use Rattle.expression_types.specs.Expression.{used_name, value_of}
use Rattle.expression_types.specs.Faults.{WithFaults, sure, fault_at, ◌>>=◌}
use Rattle.expression_types.specs.ScopeTree.{ScopeTree}
use Rattle.expression_types.specs.ValueTree.{ValueTree, is_error, entity_set}
use Rattle.initializer_types.specs.Checker.{CheckerTree, some_integer, some_condition, integer_wanted, condition_wanted, as_members}

-- What an initial value is: an expression's value, what a set gets, the edges, the out-degrees, or one with a faulty part.
pub data InitializerTree : Type 0 where
  Typed : ValueTree → InitializerTree
  Members : SetValue → InitializerTree
  Loaded : InitializerTree
  Degrees : InitializerTree
  ErrorInitializer : InitializerTree

-- no part of it is faulty
abbrev pub is_sound : InitializerTree → Bool
is_sound (Typed v) = not (is_error v)
is_sound (Members s) = true
is_sound Loaded = true
is_sound Degrees = true
is_sound ErrorInitializer = false

abbrev pub is_all_members : SetValue → Bool
is_all_members set.Empty = false
is_all_members set.All = true
is_all_members (set.Copy slot) = false
is_all_members (set.Filter slot index) = false
is_all_members (set.Modified ends function vector) = false

abbrev pub is_all : InitializerTree → Bool
is_all (Typed v) = false
is_all (Members s) = is_all_members s
is_all Loaded = false
is_all Degrees = false
is_all ErrorInitializer = false

abbrev pub is_loaded : InitializerTree → Bool
is_loaded (Typed v) = false
is_loaded (Members s) = false
is_loaded Loaded = true
is_loaded Degrees = false
is_loaded ErrorInitializer = false

abbrev pub is_degrees : InitializerTree → Bool
is_degrees (Typed v) = false
is_degrees (Members s) = false
is_degrees Loaded = false
is_degrees Degrees = true
is_degrees ErrorInitializer = false

-- which vertices an end lets through: all, those that a name says, none that a name could say, or a name with a faulty declaration
pub data ApplyEndTree : Type 0 where
  Absent : ApplyEndTree
  Given : VertexFilter → ApplyEndTree
  Wrong : ApplyEndTree
  ErrorEnd : ApplyEndTree

abbrev pub filter_named : Entity → ApplyEndTree
filter_named (entity.Edges weights) = Wrong
filter_named (entity.Vector index) = Wrong
filter_named (entity.ConstantSet slot) = Given (filter.Members slot)
filter_named (entity.IntConstant name n) = Wrong
filter_named (entity.BoolConstant name b) = Wrong
filter_named (entity.IntVariable slot) = Wrong
filter_named (entity.BoolVariable slot) = Wrong
filter_named (entity.SetVariable slot) = Given (filter.Members slot)
filter_named (entity.LoopVariable slot) = Wrong
filter_named (entity.Parameter p) = Wrong
filter_named entity.Weight = Wrong
filter_named (entity.EdgeFunction index weighted) = Wrong
filter_named (entity.VertexFunction index) = Wrong
filter_named (entity.Filter index) = Given (filter.Function index)
filter_named entity.Main = Wrong
filter_named entity.Error = ErrorEnd

abbrev pub apply_end_of : ScopeTree → Option Identifier → WithFaults ApplyEndTree
apply_end_of scope None = sure Absent
apply_end_of scope (Some name) = used_name scope name >>= λ e. sure (filter_named e)

abbrev pub is_wrong : ApplyEndTree → Bool
is_wrong Absent = false
is_wrong (Given f) = false
is_wrong Wrong = true
is_wrong ErrorEnd = false

abbrev pub is_error_end : ApplyEndTree → Bool
is_error_end Absent = false
is_error_end (Given f) = false
is_error_end Wrong = false
is_error_end ErrorEnd = true

abbrev pub given_filter : ApplyEndTree → Option VertexFilter
given_filter Absent = None
given_filter (Given f) = Some f
given_filter Wrong = None
given_filter ErrorEnd = None

abbrev pub ends_given : ApplyEndTree → ApplyEndTree → ApplyEnds
ends_given a b = record { from = given_filter a; to = given_filter b }

-- what a name means that wants one kind of thing
abbrev pub names_error : Entity → Bool
names_error (entity.Edges weights) = false
names_error (entity.Vector index) = false
names_error (entity.ConstantSet slot) = false
names_error (entity.IntConstant name n) = false
names_error (entity.BoolConstant name b) = false
names_error (entity.IntVariable slot) = false
names_error (entity.BoolVariable slot) = false
names_error (entity.SetVariable slot) = false
names_error (entity.LoopVariable slot) = false
names_error (entity.Parameter p) = false
names_error entity.Weight = false
names_error (entity.EdgeFunction index weighted) = false
names_error (entity.VertexFunction index) = false
names_error (entity.Filter index) = false
names_error entity.Main = false
names_error entity.Error = true

abbrev pub is_edges : Entity → Bool
is_edges (entity.Edges weights) = true
is_edges (entity.Vector index) = false
is_edges (entity.ConstantSet slot) = false
is_edges (entity.IntConstant name n) = false
is_edges (entity.BoolConstant name b) = false
is_edges (entity.IntVariable slot) = false
is_edges (entity.BoolVariable slot) = false
is_edges (entity.SetVariable slot) = false
is_edges (entity.LoopVariable slot) = false
is_edges (entity.Parameter p) = false
is_edges entity.Weight = false
is_edges (entity.EdgeFunction index weighted) = false
is_edges (entity.VertexFunction index) = false
is_edges (entity.Filter index) = false
is_edges entity.Main = false
is_edges entity.Error = false

abbrev pub edge_function : Entity → Option ℕ
edge_function (entity.Edges weights) = None
edge_function (entity.Vector index) = None
edge_function (entity.ConstantSet slot) = None
edge_function (entity.IntConstant name n) = None
edge_function (entity.BoolConstant name b) = None
edge_function (entity.IntVariable slot) = None
edge_function (entity.BoolVariable slot) = None
edge_function (entity.SetVariable slot) = None
edge_function (entity.LoopVariable slot) = None
edge_function (entity.Parameter p) = None
edge_function entity.Weight = None
edge_function (entity.EdgeFunction index weighted) = Some index
edge_function (entity.VertexFunction index) = None
edge_function (entity.Filter index) = None
edge_function entity.Main = None
edge_function entity.Error = None

-- an edge function whose third parameter is the edge's weight
abbrev pub takes_edge_weight : Entity → Bool
takes_edge_weight (entity.Edges weights) = false
takes_edge_weight (entity.Vector index) = false
takes_edge_weight (entity.ConstantSet slot) = false
takes_edge_weight (entity.IntConstant name n) = false
takes_edge_weight (entity.BoolConstant name b) = false
takes_edge_weight (entity.IntVariable slot) = false
takes_edge_weight (entity.BoolVariable slot) = false
takes_edge_weight (entity.SetVariable slot) = false
takes_edge_weight (entity.LoopVariable slot) = false
takes_edge_weight (entity.Parameter p) = false
takes_edge_weight entity.Weight = false
takes_edge_weight (entity.EdgeFunction index weighted) = weighted
takes_edge_weight (entity.VertexFunction index) = false
takes_edge_weight (entity.Filter index) = false
takes_edge_weight entity.Main = false
takes_edge_weight entity.Error = false

-- an edgeset in which no weights are seen, for a function that reads them
abbrev pub lacks_weights : Entity → Entity → Bool
lacks_weights (entity.Edges weights) f = not weights && takes_edge_weight f
lacks_weights (entity.Vector index) f = false
lacks_weights (entity.ConstantSet slot) f = false
lacks_weights (entity.IntConstant name n) f = false
lacks_weights (entity.BoolConstant name b) f = false
lacks_weights (entity.IntVariable slot) f = false
lacks_weights (entity.BoolVariable slot) f = false
lacks_weights (entity.SetVariable slot) f = false
lacks_weights (entity.LoopVariable slot) f = false
lacks_weights (entity.Parameter p) f = false
lacks_weights entity.Weight f = false
lacks_weights (entity.EdgeFunction index weighted) f = false
lacks_weights (entity.VertexFunction index) f = false
lacks_weights (entity.Filter index) f = false
lacks_weights entity.Main f = false
lacks_weights entity.Error f = false

abbrev pub vertex_function : Entity → Option ℕ
vertex_function (entity.Edges weights) = None
vertex_function (entity.Vector index) = None
vertex_function (entity.ConstantSet slot) = None
vertex_function (entity.IntConstant name n) = None
vertex_function (entity.BoolConstant name b) = None
vertex_function (entity.IntVariable slot) = None
vertex_function (entity.BoolVariable slot) = None
vertex_function (entity.SetVariable slot) = None
vertex_function (entity.LoopVariable slot) = None
vertex_function (entity.Parameter p) = None
vertex_function entity.Weight = None
vertex_function (entity.EdgeFunction index weighted) = None
vertex_function (entity.VertexFunction index) = Some index
vertex_function (entity.Filter index) = None
vertex_function entity.Main = None
vertex_function entity.Error = None

abbrev pub filter_function : Entity → Option ℕ
filter_function (entity.Edges weights) = None
filter_function (entity.Vector index) = None
filter_function (entity.ConstantSet slot) = None
filter_function (entity.IntConstant name n) = None
filter_function (entity.BoolConstant name b) = None
filter_function (entity.IntVariable slot) = None
filter_function (entity.BoolVariable slot) = None
filter_function (entity.SetVariable slot) = None
filter_function (entity.LoopVariable slot) = None
filter_function (entity.Parameter p) = None
filter_function entity.Weight = None
filter_function (entity.EdgeFunction index weighted) = None
filter_function (entity.VertexFunction index) = None
filter_function (entity.Filter index) = Some index
filter_function entity.Main = None
filter_function entity.Error = None

abbrev pub vector_of : Entity → Option ℕ
vector_of (entity.Edges weights) = None
vector_of (entity.Vector index) = Some index
vector_of (entity.ConstantSet slot) = None
vector_of (entity.IntConstant name n) = None
vector_of (entity.BoolConstant name b) = None
vector_of (entity.IntVariable slot) = None
vector_of (entity.BoolVariable slot) = None
vector_of (entity.SetVariable slot) = None
vector_of (entity.LoopVariable slot) = None
vector_of (entity.Parameter p) = None
vector_of entity.Weight = None
vector_of (entity.EdgeFunction index weighted) = None
vector_of (entity.VertexFunction index) = None
vector_of (entity.Filter index) = None
vector_of entity.Main = None
vector_of entity.Error = None

-- a value that belongs to the edges
abbrev pub of_edges : ℕ → InitializerTree → Entity → WithFaults InitializerTree
of_edges at x e = if names_error e then sure ErrorInitializer else (if is_edges e then sure x else fault_at at rule.WrongType ErrorInitializer)

-- the members of a set that a filter passes
abbrev pub filtered_by : ℕ → Option VarRef → Option ℕ → WithFaults InitializerTree
filtered_by at None index = fault_at at rule.WrongType ErrorInitializer
filtered_by at (Some slot) None = fault_at at rule.WrongType ErrorInitializer
filtered_by at (Some slot) (Some index) = sure (Members (set.Filter slot index))

abbrev pub filtered_set : ℕ → Entity → Entity → WithFaults InitializerTree
filtered_set at s f = if names_error s || names_error f then sure ErrorInitializer else filtered_by at (entity_set s) (filter_function f)

-- the vector is one that the edge function writes
abbrev pub writes_vector : List (List (ℕ × Reduction)) → ℕ → ℕ → Bool
writes_vector written function vector = is_some (lookup (nat_eq vector) (slice_index_or written function []))

abbrev pub modified_by : CheckerTree → ℕ → ApplyEnds → Option ℕ → Option ℕ → WithFaults InitializerTree
modified_by c at ends None vector = fault_at at rule.WrongType ErrorInitializer
modified_by c at ends (Some function) None = fault_at at rule.WrongType ErrorInitializer
modified_by c at ends (Some function) (Some vector) =
    if writes_vector c.written function vector then sure (Members (set.Modified ends function vector)) else fault_at at rule.WrongType ErrorInitializer

-- a name in a value that is not clear ends all further rules on it
abbrev pub initial_modified : CheckerTree → ℕ → Entity → ApplyEndTree → ApplyEndTree → Entity → Entity → WithFaults InitializerTree
initial_modified c at edges a b f v =
    if names_error edges || is_error_end a || is_error_end b || names_error f || names_error v then sure ErrorInitializer
    else (if is_edges edges then
    (if is_wrong a || is_wrong b || lacks_weights edges f then fault_at at rule.WrongType ErrorInitializer else modified_by c at (ends_given a b)
    (edge_function f) (vector_of v))
    else fault_at at rule.WrongType ErrorInitializer)

abbrev pub new_set : ℕ → ℤ → WithFaults InitializerTree
new_set at (pos zero) = sure (Members set.Empty)
new_set at (pos (suc n)) = fault_at at rule.WrongType ErrorInitializer
new_set at (negsuc n) = fault_at at rule.WrongType ErrorInitializer

abbrev pub loaded : ℕ → ℤ → WithFaults InitializerTree
loaded at (pos zero) = fault_at at rule.WrongType ErrorInitializer
loaded at (pos (suc zero)) = sure Loaded
loaded at (pos (suc (suc n))) = fault_at at rule.WrongType ErrorInitializer
loaded at (negsuc n) = fault_at at rule.WrongType ErrorInitializer

-- what a value is that is in the statement or declaration at this offset
abbrev pub initializer_of : CheckerTree → ℕ → InitialTree → WithFaults InitializerTree
initializer_of c at (NewSet size) = new_set at size
initializer_of c at (Load argument) = loaded at argument
initializer_of c at (Vertices edges) = used_name c.scope edges >>= of_edges at (Members set.All)
initializer_of c at (OutDegrees edges) = used_name c.scope edges >>= of_edges at Degrees
initializer_of c at (Filter s f) = used_name c.scope s >>= λ s. used_name c.scope f >>= λ f. filtered_set at s f
initializer_of c at (ApplyModified edges ends f v) =
    used_name c.scope edges >>= λ e. apply_end_of c.scope ends.from >>= λ a. apply_end_of c.scope ends.to >>= λ b.
    used_name c.scope f >>= λ f. used_name c.scope v >>= λ v. initial_modified c at e a b f v
initializer_of c at (Value e) = value_of c.scope at e >>= λ v. sure (Typed v)

-- what a variable or a constant of each type gets
abbrev pub initializer_integer : ℕ → InitializerTree → WithFaults IntExpressionTree
initializer_integer at (Typed v) = integer_wanted at v
initializer_integer at (Members s) = fault_at at rule.WrongType some_integer
initializer_integer at Loaded = fault_at at rule.WrongType some_integer
initializer_integer at Degrees = fault_at at rule.WrongType some_integer
initializer_integer at ErrorInitializer = sure some_integer

abbrev pub initializer_condition : ℕ → InitializerTree → WithFaults BoolExpressionTree
initializer_condition at (Typed v) = condition_wanted at v
initializer_condition at (Members s) = fault_at at rule.WrongType some_condition
initializer_condition at Loaded = fault_at at rule.WrongType some_condition
initializer_condition at Degrees = fault_at at rule.WrongType some_condition
initializer_condition at ErrorInitializer = sure some_condition

abbrev pub initializer_members : ℕ → InitializerTree → WithFaults SetValue
initializer_members at (Typed v) = as_members at v
initializer_members at (Members s) = sure s
initializer_members at Loaded = fault_at at rule.WrongType set.Empty
initializer_members at Degrees = fault_at at rule.WrongType set.Empty
initializer_members at ErrorInitializer = sure set.Empty
